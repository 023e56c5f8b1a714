-- Where a case ends: within the input, and behind its length.
use mathlib.Core.Path.{◌≡◌, refl}
use mathlib.Core.List.{List, []}
use Prim.Native.Nat.{ℕ, ◌+◌, ◌-◌, ◌<◌, ◌≤◌}
use native.Mathlib.Omega.{arith}
use borrow.Author.Tests.{le-leb, lt-leb, leb-true}
use lib.Dec.{leb}
use lib.ListN.{length, take, drop}
use Rattle.digits.specs.LittleEndian.{word_at}
use Rattle.digits.proofs.Choices.{test}
use Rattle.case_input.specs.Cases.{case_end, case_at}

-- no whole case
pub end_none : (bs : List ℕ) (at : ℕ) → length bs < at + 4 + word_at bs at → 0 ≡ case_end bs at
unfolding case_end
end_none bs at h = rw (lt-leb (at + 4 + word_at bs at) (length bs) h) refl

-- a whole case
pub end_there : (bs : List ℕ) (at : ℕ) → at + 4 + word_at bs at ≤ length bs → at + 4 + word_at bs at ≡ case_end bs at
unfolding case_end
end_there bs at h = rw (le-leb (at + 4 + word_at bs at) (length bs) h) refl

-- a case ends within the input
pub end_within : (bs : List ℕ) (at end : ℕ) → end ≡ case_end bs at → end ≤ length bs
unfolding case_end
end_within bs at end e =
    rw e (test (leb (at + 4 + word_at bs at) (length bs)) (λ t. rw t (leb-true _ _ t)) (λ t. rw t (omega arith)))

-- and, where it ends behind the offset, behind its length
pub end_behind : (bs : List ℕ) (at end : ℕ) → end ≡ case_end bs at → at < end → at + 4 ≤ end
unfolding case_end
end_behind bs at end e h =
    test (leb (at + 4 + word_at bs at) (length bs)) (λ t. let n : end ≡ at + 4 + word_at bs at = rw t at e in omega arith)
    (λ t. let n : end ≡ 0 = rw t at e in absurd (omega arith))

-- no case has an empty slice
pub slice_none : (bs : List ℕ) (at : ℕ) → case_end bs at ≤ at → [] ≡ case_at bs at
unfolding case_at
slice_none bs at h = let z : case_end bs at - (at + 4) ≡ 0 = omega arith in rw z refl

-- the slice of a case: from behind the length to the end
pub slice_there : (bs : List ℕ) (at end : ℕ) → end ≡ case_end bs at → take (end - (at + 4)) (drop (at + 4) bs) ≡ case_at bs at
unfolding case_at
slice_there bs at end e = rw e refl
