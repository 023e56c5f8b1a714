-- The classes of the bytes in a frame's body, and the reason that each is refused with
-- (paper 01, "SiRad" and "Judging a place"; paper 02, (ii)).
use Rattle.std.specs.Prelude.{Bool, true, ◌≡◌, List, [], ◌∷◌, ℕ, eqb}
use Rattle.digits.specs.Bytes.{is_hex, is_character}

-- a hex digit, a character, the value 0, 13, 10
pub data Class : Type 0 where
  Hex : Class
  Char : Class
  Zero : Class
  Cr : Class
  Lf : Class

-- the bytes of the class (paper 01, "SiRad": upper-case hex digits, characters, then 13 and 10; paper 02, (ii): the value 0)
abbrev pub accepts : Class → ℕ → Bool
accepts Hex b = is_hex b
accepts Char b = is_character b
accepts Zero b = eqb b 0
accepts Cr b = eqb b 13
accepts Lf b = eqb b 10

-- not a hex digit, not a character, wrong stop marker (paper 01, "Judging a place", table of reasons);
-- a byte that breaks a block of value 0 (paper 02, (ii))
abbrev pub reason : Class → ℕ
reason Hex = 12
reason Char = 13
reason Zero = 17
reason Cr = 14
reason Lf = 14

-- as many bytes as classes, each byte of its class
unfoldable pub Passes : List Class → List ℕ → Type 0
Passes [] [] = Unit {0}
Passes [] (b ∷ bs) = ⊥
Passes (c ∷ cs) [] = ⊥
Passes (c ∷ cs) (b ∷ bs) = (accepts c b ≡ true) × Passes cs bs
