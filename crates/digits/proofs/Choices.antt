-- Laws of `cond` and `&&`, and the case distinctions that proofs about tests use.
use mathlib.Core.Path.{◌≡◌, refl}
use mathlib.Core.Bool.{Bool, true, false, cond, ◌&&◌, ◌||◌}
use mathlib.Core.Logic.{◌⊎◌, inl, inr}
use Prim.Native.Nat.{ℕ, ◌≤◌}
use native.Mathlib.Omega.{arith}
use lib.Dec.{leb}
use borrow.Author.Tests.{leb-true}
use Rattle.digits.specs.Bytes.{within}

-- -- Case distinctions

-- by the value of a test, with the equation kept
pub test : {C : Type 0} (t : Bool) → (t ≡ true → C) → (t ≡ false → C) → C
test true f g = f refl
test false f g = g refl

-- by which of two facts holds
pub either : {A B C : Type 0} → A ⊎ B → (A → C) → (B → C) → C
either (inl a) f g = f a
either (inr b) f g = g b

-- a test is not both true and false
pub both_ways : {C : Type 0} (t : Bool) → t ≡ true → t ≡ false → C
both_ways t p q = let z : ◌≡◌ {A = ℕ} 0 1 = cc in absurd (omega arith)

-- -- Conjunctions

-- the left test of a conjunction that holds
pub and_left : (a b : Bool) → (a && b) ≡ true → a ≡ true
and_left true b h = refl
and_left false b h = h

-- the right test of a conjunction that holds
pub and_right : (a b : Bool) → (a && b) ≡ true → b ≡ true
and_right true b h = h
and_right false b h = both_ways false h refl

-- both of them
pub and_parts : (a b : Bool) → (a && b) ≡ true → (a ≡ true) × (b ≡ true)
and_parts a b h = (and_left a b h, and_right a b h)

-- the bounds of a range that a number lies in
pub within_bounds : (low high n : ℕ) → within low high n ≡ true → (low ≤ n) × (n ≤ high)
within_bounds low high n h =
    let p = and_parts (leb low n) (leb n high) h in
    (leb-true low n p.0, leb-true n high p.1)

-- a conjunction of two tests that hold
pub and_both : (a b : Bool) → a ≡ true → b ≡ true → (a && b) ≡ true
and_both true b p q = q
and_both false b p q = p

-- a conjunction whose right test fails
pub and_fails_right : (a b : Bool) → b ≡ false → (a && b) ≡ false
and_fails_right true b p = p
and_fails_right false b p = refl

-- either of two tests is enough
pub or_right : (a b : Bool) → b ≡ true → (a || b) ≡ true
or_right true b h = refl
or_right false b h = h

-- -- Choices by a test

-- between equals the test does not matter
pub cond_same : {A : Type 0} (t : Bool) (x : A) → cond t x x ≡ x
cond_same true x = refl
cond_same false x = refl

-- a function of a choice is a choice of its values
pub cond_apply : {A B : Type 0} (f : A → B) (t : Bool) (x y : A) → f (cond t x y) ≡ cond t (f x) (f y)
cond_apply f true x y = refl
cond_apply f false x y = refl
