-- The refusal of a writer by its cases, and its answer by the refusal.
use mathlib.Core.Path.{◌≡◌, sym, ◌∙◌}
use mathlib.Core.List.{List}
use Prim.Native.Nat.{ℕ, ◌<◌, ◌≤◌}
use native.Mathlib.Decide.{dec_le, ℕ_discrete}
use native.Mathlib.Omega.{arith}
use borrow.Author.Tests.{le-leb, lt-leb, eq-eqb, ne_eqb}
use lib.ListN.{length}
use Rattle.digits.specs.Stores.{stored, writer_refusal, Writes}
use Rattle.digits.proofs.StoreLaws.{unfit, short, done}

module _ (refusal size room : ℕ) where
  -- the values are refused
  pub refusal_given : (refusal ≡ 0 → ⊥) → refusal ≡ writer_refusal refusal size room
  unfolding writer_refusal
  refusal_given h = rw (ne_eqb refusal 0 h)

  -- they are not, and the room is too short
  pub refusal_short : refusal ≡ 0 → room < size → 51 ≡ writer_refusal refusal size room
  unfolding writer_refusal
  refusal_short h k = rw (eq-eqb refusal 0 h, lt-leb size room k)

  -- nothing is refused
  pub refusal_none : refusal ≡ 0 → size ≤ room → 0 ≡ writer_refusal refusal size room
  unfolding writer_refusal
  refusal_none h k = rw (eq-eqb refusal 0 h, le-leb size room k)

-- a writer of n bytes that found the refusal r
module _ (refusal : ℕ) (bytes out : List ℕ) (n : ℕ) (size : length bytes ≡ n) {u r : ℕ} (e : u ≡ refusal)
    (f : r ≡ writer_refusal u n (length out)) where
  -- nothing refused: the values fit, and there is room
  pub none_refused : r ≡ 0 → (refusal ≡ 0) × (n ≤ length out)
  none_refused z = go (ℕ_discrete u 0) (dec_le n (length out))
    where
      go : Dec (u ≡ 0) → Dec (n ≤ length out) → (refusal ≡ 0) × (n ≤ length out)
      go (yes q) (yes l) = (sym e ∙ q, l)
      go (yes q) (no l) = let k : ◌≡◌ {A = ℕ} 51 0 = refusal_short u n (length out) q (omega arith) ∙ sym f ∙ z in absurd (omega arith)
      go (no q) l = absurd (q (refusal_given u n (length out) q ∙ sym f ∙ z))

  -- all written
  pub all_written : r ≡ 0 → {after : List ℕ} → after ≡ stored out 0 bytes
      → Writes refusal bytes out (record { refusal = 0; size = n }) after
  all_written z {after} w = let g = none_refused z in done refusal bytes out after n g.0 size g.1 w

  -- refused
  pub refused_written : (r ≡ 0 → ⊥) → Writes refusal bytes out (record { refusal = r; size = 0 }) out
  refused_written h = go (ℕ_discrete u 0) (dec_le n (length out))
    where
      go : Dec (u ≡ 0) → Dec (n ≤ length out) → Writes refusal bytes out (record { refusal = r; size = 0 }) out
      go (yes q) (yes l) = absurd (h (f ∙ sym (refusal_none u n (length out) q l)))
      go (yes q) (no l) =
          let w : r ≡ 51 = f ∙ sym (refusal_short u n (length out) q (omega arith)) in
          rw w (short refusal bytes out (sym e ∙ q) (omega arith))
      go (no q) l =
          let w : refusal ≡ r = sym e ∙ refusal_given u n (length out) q ∙ sym f in
          rw (← w) (unfit refusal bytes out (λ z. q (e ∙ z)))
