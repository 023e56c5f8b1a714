-- Bytes of a list at an offset, and bounds on all numbers of a list.
use mathlib.Core.Path.{◌≡◌, ap, ◌∙◌}
use mathlib.Core.List.{List, [], ◌∷◌}
use Prim.Native.Nat.{ℕ, zero, suc, ◌+◌, ◌-◌, ◌<◌, ◌≤◌}
use native.Mathlib.Nat.{add-zero}
use native.Mathlib.Numerals.{add-one}
use native.Mathlib.Omega.{arith}
use lib.ListN.{length, take, drop, get_or, length-drop}
use lib.Seq.{drop-cons, drop_at, get_or-drop, length-take-le, take-add, take_all}
use Rattle.digits.specs.Bytes.{Below}

-- -- The bytes from an offset on

-- the first byte from offset at on, then the rest
pub drop_one : (s : List ℕ) (at : ℕ) → at < length s → drop at s ≡ get_or s at 0 ∷ drop (at + 1) s
drop_one s at h = rw add-one (drop-cons s at 0 h)

-- that byte alone, whether it is there or not
pub drop_first : (s : List ℕ) (at : ℕ) → get_or (drop at s) 0 0 ≡ get_or s at 0
drop_first s at = get_or-drop at s 0 0 ∙ ap (λ (x : ℕ). get_or s x 0) (add-zero at)

-- the part of a slice from an offset on
pub part_drop : (s : List ℕ) (at : ℕ) → take (length s - at) (drop at s) ≡ drop at s
part_drop s at = let h = length-drop at s in take_all (length s - at) (drop at s) (omega arith)

-- what lies behind the first n of n + m bytes
pub drop_take : (s : List ℕ) (n m : ℕ) → n + m ≤ length s → drop n (take (n + m) s) ≡ take m (drop n s)
drop_take s n m h = ap (drop n) (take-add n m s) ∙ drop_at (take n s) (take m (drop n s)) n (length-take-le n s (omega arith))

-- the first four bytes from offset at on, then the rest
pub drop_four : (s : List ℕ) (at : ℕ) → at + 4 ≤ length s
    → drop at s ≡ get_or s at 0 ∷ get_or s (at + 1) 0 ∷ get_or s (at + 2) 0 ∷ get_or s (at + 3) 0 ∷ drop (at + 4) s
drop_four s at h =
    let e1 : at + 1 + 1 ≡ at + 2 = omega arith in
    let e2 : at + 2 + 1 ≡ at + 3 = omega arith in
    let e3 : at + 3 + 1 ≡ at + 4 = omega arith in
    let d0 = drop_one s at (omega arith) in
    let d1 : drop (at + 1) s ≡ get_or s (at + 1) 0 ∷ drop (at + 2) s = rw (← e1) (drop_one s (at + 1) (omega arith)) in
    let d2 : drop (at + 2) s ≡ get_or s (at + 2) 0 ∷ drop (at + 3) s = rw (← e2) (drop_one s (at + 2) (omega arith)) in
    let d3 : drop (at + 3) s ≡ get_or s (at + 3) 0 ∷ drop (at + 4) s = rw (← e3) (drop_one s (at + 3) (omega arith)) in
    cc

-- the four bytes from offset at on
pub take_four : (s : List ℕ) (at : ℕ) → at + 4 ≤ length s
    → take 4 (drop at s) ≡ get_or s at 0 ∷ get_or s (at + 1) 0 ∷ get_or s (at + 2) 0 ∷ get_or s (at + 3) 0 ∷ []
take_four s at h = rw (drop_four s at h)

-- -- Bounds on all numbers

-- the first n
pub below_take : (bound n : ℕ) (xs : List ℕ) → Below bound xs → Below bound (take n xs)
unfolding Below
below_take bound zero xs h = tt
below_take bound (suc n) [] h = tt
below_take bound (suc n) (x ∷ xs) (h, hs) = (h, below_take bound n xs hs)

-- all behind the first n
pub below_drop : (bound n : ℕ) (xs : List ℕ) → Below bound xs → Below bound (drop n xs)
unfolding Below
below_drop bound zero xs h = h
below_drop bound (suc n) [] h = tt
below_drop bound (suc n) (x ∷ xs) (h, hs) = below_drop bound n xs hs
