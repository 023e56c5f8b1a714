-- Upper-case hex numbers of any width, most significant digit first (document 000, size field).
use Rattle.std.specs.Prelude.{true, cond, ◌≡◌, List, [], ◌∷◌, ◌++◌, ℕ, zero, suc, ◌+◌, ◌-◌, ◌*◌, ◌/◌, ◌%◌, leb, take, drop}
use Rattle.digits.specs.Bytes.{within, is_hex}

-- what a digit stands for; 0 for a byte that is no digit
unfoldable pub digit : ℕ → ℕ
digit b = cond (within 48 57 b) (b - 48) (cond (within 65 70 b) (b - 55) 0)

-- the byte of the digit d
unfoldable pub glyph : ℕ → ℕ
glyph d = cond (leb d 9) (48 + d) (55 + d)

-- the number that the digits give when v stands in front of them
unfoldable pub hex_from : ℕ → List ℕ → ℕ
hex_from v [] = v
hex_from v (b ∷ bs) = hex_from (v * 16 + digit b) bs

-- the number that the digits give
abbrev pub hex_value : List ℕ → ℕ
hex_value bs = hex_from 0 bs

-- the lowest n digits of v
unfoldable pub hex_digits : ℕ → ℕ → List ℕ
hex_digits zero v = []
hex_digits (suc n) v = hex_digits n (v / 16) ++ (glyph (v % 16) ∷ [])

-- the number in the n digits from offset at on
abbrev pub hex_at : ℕ → ℕ → List ℕ → ℕ
hex_at n at bs = hex_value (take n (drop at bs))

-- every byte of the list is an upper-case hex digit
unfoldable pub AllHex : List ℕ → Type 0
AllHex [] = Unit {0}
AllHex (b ∷ bs) = (is_hex b ≡ true) × AllHex bs
