-- The phase in two's complement, both ways, and the numbers of a list of targets, both ways.
use mathlib.Core.Path.{◌≡◌, refl, sym, ap}
use mathlib.Core.Bool.{true, false, ◌&&◌}
use mathlib.Core.List.{List, [], ◌∷◌}
use Prim.Native.Nat.{ℕ, zero, suc, ◌-◌, ◌<◌, ◌≤◌}
use native.Mathlib.Omega.{arith}
use native.Mathlib.Decide.{dec_le}
use borrow.Author.Tests.{le-leb, lt-leb, ltb-true, eqb-true}
use lib.Dec.{eqb, ltb}
use lib.IntN.{ℤ, pos, negsuc}
use lib.ListN.{drop, get_or}
use Rattle.digits.specs.Bytes.{is_character}
use Rattle.digits.proofs.Choices.{test, and_left, and_right, both_ways}
use Rattle.sirad.specs.Rows.{blocks}
use Rattle.sirad_fields.specs.declared.Target.{Target}
use Rattle.sirad_fields.specs.Values.{target_fits, fit}
use Rattle.sirad_fields.specs.Fields.{signed, bits_of, is_phase, Phases, held_target, targets_of, block_numbers, carried, all_carried}

-- -- One phase

-- 16 bits, read as a phase, have the same bits
pub bits_signed : (v : ℕ) → v < 65536 → bits_of (signed v) ≡ v
unfolding bits_of signed
bits_signed v h = go (dec_le v 32767)
  where
    go : Dec (v ≤ 32767) → bits_of (signed v) ≡ v
    go (yes l) = rw (le-leb v 32767 l)
    go (no n) = rw (lt-leb v 32767 (omega arith)) (omega arith)

-- the bits of a phase, read, are the phase
pub signed_bits : (p : ℤ) → is_phase p → signed (bits_of p) ≡ p
unfolding bits_of signed
signed_bits (pos n) h = rw (le-leb n 32767 h)
signed_bits (negsuc n) h = rw (lt-leb (65535 - n) 32767 (omega arith)) (ap negsuc (omega arith))

-- -- The numbers of a list of targets

module _ (n : ℕ) (next : (vs : List ℕ) → fit (blocks n) vs ≡ true → block_numbers (targets_of n vs) ≡ vs) where
  held_numbers : (vs : List ℕ) → target_fits vs ≡ true → fit (blocks n) (drop 4 vs) ≡ true
      → 0 ∷ get_or vs 0 0 ∷ get_or vs 1 0 ∷ get_or vs 2 0 ∷ bits_of (signed (get_or vs 3 0)) ∷ block_numbers
      (targets_of n (drop 4 vs)) ≡ 0 ∷ vs
  held_numbers [] f r = both_ways false f refl
  held_numbers (a ∷ []) f r = both_ways false f refl
  held_numbers (a ∷ b ∷ []) f r = both_ways false f refl
  held_numbers (a ∷ b ∷ c ∷ []) f r = both_ways false f refl
  held_numbers (a ∷ b ∷ c ∷ d ∷ vs) f r =
      let r₁ = and_right (ltb a 16) (ltb b 65536 && (is_character c && ltb d 65536)) f in
      let r₂ = and_right (ltb b 65536) (is_character c && ltb d 65536) r₁ in
      rw (bits_signed d (ltb-true d 65536 (and_right (is_character c) (ltb d 65536) r₂)), next vs r)

  numbers_block : (e : ℕ) (vs : List ℕ) → fit (blocks (suc n)) (e ∷ vs) ≡ true → block_numbers (targets_of (suc n) (e ∷ vs)) ≡ e ∷ vs
  unfolding blocks fit targets_of block_numbers
  numbers_block e vs h = test (eqb e 0) held none
    where
      held : eqb e 0 ≡ true → block_numbers (targets_of (suc n) (e ∷ vs)) ≡ e ∷ vs
      held t =
          let g : (target_fits vs && fit (blocks n) (drop 4 vs)) ≡ true = rw t at h in
          let first = and_left (target_fits vs) (fit (blocks n) (drop 4 vs)) g in
          rw (t, eqb-true e 0 t) (held_numbers vs first (and_right (target_fits vs) (fit (blocks n) (drop 4 vs)) g))

      none : eqb e 0 ≡ false → block_numbers (targets_of (suc n) (e ∷ vs)) ≡ e ∷ vs
      none t =
          let g : (eqb e 1 && fit (blocks n) vs) ≡ true = rw t at h in
          let one : e ≡ 1 = eqb-true e 1 (and_left (eqb e 1) (fit (blocks n) vs) g) in
          rw (t, one) (ap (λ (l : List ℕ). 1 ∷ l) (next vs (and_right (eqb e 1) (fit (blocks n) vs) g)))

-- the numbers of n blocks are the numbers of their targets
pub numbers_targets : (n : ℕ) (vs : List ℕ) → fit (blocks n) vs ≡ true → block_numbers (targets_of n vs) ≡ vs
unfolding blocks fit targets_of block_numbers
numbers_targets zero [] h = refl
numbers_targets zero (a ∷ vs) h = both_ways false h refl
numbers_targets (suc n) [] h = both_ways false h refl
numbers_targets (suc n) (e ∷ vs) h = numbers_block n (numbers_targets n) e vs h

module _ (n : ℕ) (t : Target) (ts : List Target) where
  -- a target has its own fields
  held_target_lem : t.empty ≡ 0 → held_target t.number t.distance t.magnitude t.phase ≡ t
  held_target_lem e =
      ap (λ (x : ℕ). record { number = t.number; empty = x; distance = t.distance; magnitude = t.magnitude; phase = t.phase }) (sym e)

  targets_block : is_phase t.phase → fit (blocks (suc n)) (block_numbers (t ∷ ts)) ≡ true
      → (fit (blocks n) (block_numbers ts) ≡ true → targets_of n (block_numbers ts) ≡ all_carried ts)
      → targets_of (suc n) (block_numbers (t ∷ ts)) ≡ carried t ∷ all_carried ts
  unfolding blocks fit targets_of block_numbers
  targets_block p h next = test (eqb t.empty 0) held none
    where
      Goal : Type 0
      Goal = targets_of (suc n) (block_numbers (t ∷ ts)) ≡ carried t ∷ all_carried ts

      held : eqb t.empty 0 ≡ true → Goal
      held e =
          let f = target_fits (t.number ∷ t.distance ∷ t.magnitude ∷ bits_of t.phase ∷ block_numbers ts) in
          let g : (f && fit (blocks n) (block_numbers ts)) ≡ true = rw e at h in
          let rest = next (and_right f (fit (blocks n) (block_numbers ts)) g) in
          let same = held_target_lem (eqb-true t.empty 0 e) in
          rw (e, signed_bits t.phase p, rest) (ap (λ (x : Target). x ∷ all_carried ts) same)

      none : eqb t.empty 0 ≡ false → Goal
      none e =
          let g : (eqb t.empty 1 && fit (blocks n) (block_numbers ts)) ≡ true = rw (e, e) at h in
          rw (e, e, next (and_right (eqb t.empty 1) (fit (blocks n) (block_numbers ts)) g))

-- no number is left behind the last block
behind_ending : (t : Target) (ts : List Target) → fit (blocks 0) (block_numbers (t ∷ ts)) ≡ true → ⊥
unfolding blocks fit block_numbers
behind_ending t ts h =
    test (eqb t.empty 0) (λ e. let g : false ≡ true = rw e at h in both_ways false g refl)
    (λ e. let g : false ≡ true = rw e at h in both_ways false g refl)

-- the targets of their own numbers are themselves, but for what an empty one does not carry
pub targets_numbers : (n : ℕ) (ts : List Target) → Phases ts → fit (blocks n) (block_numbers ts) ≡ true
    → targets_of n (block_numbers ts) ≡ all_carried ts
unfolding blocks fit targets_of block_numbers Phases all_carried
targets_numbers zero [] p h = refl
targets_numbers zero (t ∷ ts) p h = absurd (behind_ending t ts h)
targets_numbers (suc n) [] p h = both_ways false h refl
targets_numbers (suc n) (t ∷ ts) p h = targets_block n t ts p.0 h (targets_numbers n ts p.1)
