-- Back from a bad judgement to the piece that refused, and forth: a piece that refuses, refuses for all that it begins.
use mathlib.Core.Bool.{Bool, true, false, cond}
use mathlib.Core.Path.{◌≡◌, refl, sym, ap, ◌∙◌}
use mathlib.Core.List.{List, [], ◌∷◌}
use mathlib.Core.Logic.{◌↔◌, ◌⊎◌, inl, inr}
use Prim.Native.Nat.{ℕ, zero, suc, ◌+◌, ◌*◌, ◌<◌, ◌≤◌}
use native.Mathlib.Omega.{arith}
use native.Mathlib.Decide.{dec_le}
use lib.Dec.{eqb}
use lib.ListN.{length, take, drop, get_or}
use borrow.Author.Tests.{eq-eqb, ne_eqb, eqb-true, eqb-false}
use Rattle.digits.specs.LittleEndian.{little_at}
use Rattle.form.specs.declared.Judgement.{Judgement}
use Rattle.form.specs.declared.Judgement.TheVariants.{Whole, Bad, Waiting}
use Rattle.form.specs.Form.{Form, whole, ◌>>=◌, judge, judge_at}
use Rattle.form.specs.Pieces.{four, marker, free, frees, Broken}
use Rattle.form.proofs.PieceLaws.{after, seq, word_step, four_waits, frees_free}

-- -- Two pieces

-- the first refuses, or it is whole and the second refuses
pub seq_refused : (p : Form) (h : ℕ → Form) (at : ℕ) (bs : List ℕ) (r : ℕ) → judge_at (p >>= h) at bs ≡ Bad r
    → (judge_at p at bs ≡ Bad r) ⊎ ((u : ℕ) × (d : ℕ) × (judge_at p at bs ≡ Whole u d) × (judge_at (h u) d bs ≡ Bad r))
seq_refused p h at bs r w = go (judge_at p at bs) refl (sym (seq p h at bs) ∙ w)
  where
    go : (j : Judgement) → judge_at p at bs ≡ j → after j (λ v e. judge_at (h v) e bs) ≡ Bad r
        → (judge_at p at bs ≡ Bad r) ⊎ ((u : ℕ) × (d : ℕ) × (judge_at p at bs ≡ Whole u d) × (judge_at (h u) d bs ≡ Bad r))
    go (Whole u d) a b = inr (u, d, a, b)
    go (Bad q) a b = inl (a ∙ b)
    go Waiting a b = let z : ◌≡◌ {A = ℕ} 0 1 = cc in absurd (omega arith)

-- a first piece that refuses
pub refuses_first : (p : Form) (h : ℕ → Form) (at : ℕ) (bs : List ℕ) (r : ℕ) → judge_at p at bs ≡ Bad r → judge_at (p >>= h) at bs ≡ Bad r
refuses_first p h at bs r w = seq p h at bs ∙ ap (λ (j : Judgement). after j (λ v e. judge_at (h v) e bs)) w

-- -- A four-byte field

-- its bytes are there, and its number is refused
pub four_refused : (r : ℕ → ℕ) (t : ℕ → Bool) (at : ℕ) (bs : List ℕ) (q : ℕ) → judge_at (four r t) at bs ≡ Bad q
    → (q ≡ r (little_at 4 at bs)) × (at + 4 ≤ length bs) × (t (little_at 4 at bs) ≡ false)
unfolding judge
four_refused r t at bs q w = go (dec_le (at + 4) (length bs))
  where
    tested : (u : Bool) → t (little_at 4 at bs) ≡ u → cond u (Whole (little_at 4 at bs) (at + 4)) (Bad (r (little_at 4 at bs))) ≡ Bad q
        → (q ≡ r (little_at 4 at bs)) × (t (little_at 4 at bs) ≡ false)
    tested true a b = let z : ◌≡◌ {A = ℕ} 0 1 = cc in absurd (omega arith)
    tested false a b = (cc, a)

    go : Dec (at + 4 ≤ length bs) → (q ≡ r (little_at 4 at bs)) × (at + 4 ≤ length bs) × (t (little_at 4 at bs) ≡ false)
    go (yes l) = let g = tested (t (little_at 4 at bs)) refl (sym (word_step r t whole at bs l) ∙ w) in (g.0, l, g.1)
    go (no n) = let h : Waiting ≡ Bad q = four_waits r t at bs (omega arith) ∙ w in let z : ◌≡◌ {A = ℕ} 0 1 = cc in absurd (omega arith)

-- a number that is there and does not pass
pub four_refuses : (r : ℕ → ℕ) (t : ℕ → Bool) (at : ℕ) (bs : List ℕ) → at + 4 ≤ length bs → t (little_at 4 at bs) ≡ false
    → judge_at (four r t) at bs ≡ Bad (r (little_at 4 at bs))
unfolding judge
four_refuses r t at bs h a = word_step r t whole at bs h ∙ rw a

-- -- Free bytes are never refused

free_not : (n at r : ℕ) (xs : List ℕ) → judge (free n) at xs ≡ Bad r → ⊥
unfolding judge free
free_not zero at r xs w = let z : ◌≡◌ {A = ℕ} 0 1 = cc in omega arith
free_not (suc n) at r [] w = let z : ◌≡◌ {A = ℕ} 0 1 = cc in omega arith
free_not (suc n) at r (b ∷ xs) w = free_not n (at + 1) r xs w

-- free bytes are not refused
pub free_not_refused : (n at r : ℕ) (bs : List ℕ) → judge_at (free n) at bs ≡ Bad r → ⊥
free_not_refused n at r bs w = free_not n at r (drop at bs) w

-- free four-byte fields are not refused
pub frees_not_refused : (n at r : ℕ) (bs : List ℕ) → judge_at (frees n) at bs ≡ Bad r → ⊥
frees_not_refused n at r bs w = free_not (4 * n) at r (drop at bs) (sym (frees_free n at (drop at bs)) ∙ w)

-- -- The given bytes

marker_broken : (r : ℕ) (ms : List ℕ) (at : ℕ) (xs : List ℕ) (q : ℕ) → judge (marker r ms) at xs ≡ Bad q → (q ≡ r) × Broken ms xs
unfolding judge marker Broken
marker_broken r [] at xs q w = let z : ◌≡◌ {A = ℕ} 0 1 = cc in absurd (omega arith)
marker_broken r (m ∷ ms) at [] q w = let z : ◌≡◌ {A = ℕ} 0 1 = cc in absurd (omega arith)
marker_broken r (m ∷ ms) at (b ∷ xs) q w = go (eqb b m) refl w (marker_broken r ms (at + 1) xs q)
  where
    go : (u : Bool) → eqb b m ≡ u → cond u (judge (marker r ms) (at + 1) xs) (Bad r) ≡ Bad q
        → (judge (marker r ms) (at + 1) xs ≡ Bad q → (q ≡ r) × Broken ms xs)
        → (q ≡ r) × Broken (m ∷ ms) (b ∷ xs)
    go true a j s = let g = s j in let x = eqb-true b m a in let y = g.1.3 in
        (g.0, (suc g.1.0, omega (arith, g.1.1), omega (arith, g.1.2), cc, g.1.4))
    go false a j s = (cc, (0, omega arith, omega arith, refl, eqb-false b m a))

broken_marker : (r : ℕ) (ms : List ℕ) (at : ℕ) (xs : List ℕ) (i : ℕ) → i < length ms → i < length xs → take i xs ≡ take i ms
    → (get_or xs i 0 ≡ get_or ms i 0 → ⊥)
    → judge (marker r ms) at xs ≡ Bad r
unfolding judge marker
broken_marker r [] at xs i a b c d = absurd (omega arith)
broken_marker r (m ∷ ms) at [] i a b c d = absurd (omega arith)
broken_marker r (m ∷ ms) at (b ∷ xs) zero h l c d = rw (ne_eqb b m d)
broken_marker r (m ∷ ms) at (b ∷ xs) (suc i) h l c d =
    rw (eq-eqb b m (cc)) (broken_marker r ms (at + 1) xs i (omega arith) (omega arith) (cc) d)

-- the given bytes are refused exactly if one that is there is another, and those before it are as given
pub marker_refused : (r : ℕ) (ms : List ℕ) (at : ℕ) (bs : List ℕ) (q : ℕ)
    → (judge_at (marker r ms) at bs ≡ Bad q) ↔ ((q ≡ r) × Broken ms (drop at bs))
unfolding Broken
marker_refused r ms at bs q = (
  marker_broken r ms at (drop at bs) q,
  λ g. broken_marker r ms at (drop at bs) g.1.0 g.1.1 g.1.2 g.1.3 g.1.4 ∙ ap Bad (sym g.0),
)
