-- The bytes of a command (paper 01, "DemoRad"; document 001, section 2.1.1).
use Rattle.std.specs.Prelude.{Bool, true, false, List, [], ◌∷◌, ◌++◌, ℕ, ◌+◌, ◌*◌, ◌^◌, take}
use Rattle.digits.specs.LittleEndian.{to_little}

-- a flag as a bit
abbrev pub flag_bit : Bool → ℕ
flag_bit true = 1
flag_bit false = 0

-- the header: RD in bit 31, the length in words with the header from bit 16 on, the code from bit 0 on (document 001, tables 2 to 5)
unfoldable pub header_word : Bool → ℕ → ℕ → ℕ
header_word rd code count = flag_bit rd * 2 ^ 31 + (count + 1) * 2 ^ 16 + code

-- words one behind the other, byte 0 of each first (paper 01, "DemoRad")
unfoldable pub word_bytes : List ℕ → List ℕ
word_bytes [] = []
word_bytes (w ∷ ws) = to_little 4 w ++ word_bytes ws

-- a command: the header and the counted words; words behind the count are no part of it
unfoldable pub command_bytes : Bool → ℕ → ℕ → List ℕ → List ℕ
command_bytes rd code count words = word_bytes (header_word rd code count ∷ take count words)
