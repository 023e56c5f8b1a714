-- Bytes and the classes of bytes that the documents name.
use Rattle.std.specs.Prelude.{Bool, ◌&&◌, ◌||◌, List, [], ◌∷◌, ℕ, ◌<◌, ◌^◌, leb}

-- every number of the list is below the bound
unfoldable pub Below : ℕ → List ℕ → Type 0
Below bound [] = Unit {0}
Below bound (v ∷ vs) = (v < bound) × Below bound vs

-- every number of the list is a byte
abbrev pub Bytes : List ℕ → Type 0
Bytes bs = Below (2 ^ 8) bs

-- b lies between low and high, both included
abbrev pub within : ℕ → ℕ → ℕ → Bool
within low high b = leb low b && leb b high

-- an upper-case hex digit (paper 01, "The three wires": lower case is refused)
abbrev pub is_hex : ℕ → Bool
is_hex b = within 48 57 b || within 65 70 b

-- a "character" is a byte 34 to 254 (document 000, data field; paper 01, "The three wires")
abbrev pub is_character : ℕ → Bool
is_character b = within 34 254 b
