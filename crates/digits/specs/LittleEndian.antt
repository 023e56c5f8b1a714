-- Numbers of any width, least significant byte first (paper 01, "mmWave" and "DemoRad").
use Rattle.std.specs.Prelude.{cond, List, [], ◌∷◌, ℕ, zero, suc, ◌+◌, ◌*◌, ◌/◌, ◌%◌, leb, length, take, drop}

-- the number that the bytes give
unfoldable pub from_little : List ℕ → ℕ
from_little [] = 0
from_little (b ∷ bs) = b + 256 * from_little bs

-- the lowest n bytes of v
unfoldable pub to_little : ℕ → ℕ → List ℕ
to_little zero v = []
to_little (suc n) v = v % 256 ∷ to_little n (v / 256)

-- the number in the n bytes from offset at on
abbrev pub little_at : ℕ → ℕ → List ℕ → ℕ
little_at n at bs = from_little (take n (drop at bs))

-- the 32-bit number at offset at; 0 where fewer than four bytes are there
unfoldable pub word_at : List ℕ → ℕ → ℕ
word_at bs at = cond (leb (at + 4) (length bs)) (little_at 4 at bs) 0
