-- The input of the programs that run cases: slices one after another, each behind its length in four bytes.
use Rattle.std.specs.Prelude.{cond, List, ℕ, ◌+◌, ◌-◌, leb, length, take, drop}
use Rattle.digits.specs.LittleEndian.{word_at}

-- where the case at an offset ends; 0 where its bytes are not all there
unfoldable pub case_end : List ℕ → ℕ → ℕ
case_end bs at = cond (leb (at + 4 + word_at bs at) (length bs)) (at + 4 + word_at bs at) 0

-- the slice of the case at an offset: the bytes behind the length; none where the case is not whole
unfoldable pub case_at : List ℕ → ℕ → List ℕ
case_at bs at = take (case_end bs at - (at + 4)) (drop (at + 4) bs)
