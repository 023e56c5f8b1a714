-- The lines of a listing, as bytes (paper 01, "The listing").
use Rattle.std.specs.Prelude.{cond, List, [], ◌∷◌, ◌++◌, ℕ, eqb}
use Rattle.reading.specs.declared.Row.{Row}
use Rattle.listing.specs.Decimal.{decimal}

-- the byte between fields
abbrev pub tab : ℕ
tab = 9

-- the byte at the end of a line
abbrev pub line_feed : ℕ
line_feed = 10

-- the letter of a kind: R, P, C, T, U, E (paper 01, "SiRad") and M ("The listing"); `?` for a number that is no kind
abbrev pub letter : ℕ → ℕ
letter kind =
    cond (eqb kind 1) 82
    (cond (eqb kind 2) 80
    (cond (eqb kind 3) 67 (cond (eqb kind 4) 84 (cond (eqb kind 5) 85 (cond (eqb kind 6) 69 (cond (eqb kind 16) 77 63))))))

-- a tab, and a number behind it
unfoldable pub field : ℕ → List ℕ
field v = tab ∷ decimal v

-- two numbers to the end of the line
unfoldable pub fields : ℕ → ℕ → List ℕ
fields a b = field a ++ (field b ++ (line_feed ∷ []))

-- the first line: `kind`, tab, `place`, tab, `length`
unfoldable pub header_line : List ℕ
header_line = 107 ∷ 105 ∷ 110 ∷ 100 ∷ tab ∷ 112 ∷ 108 ∷ 97 ∷ 99 ∷ 101 ∷ tab ∷ 108 ∷ 101 ∷ 110 ∷ 103 ∷ 116 ∷ 104 ∷ line_feed ∷ []

-- the line of a row: letter, place, length
unfoldable pub row_line : Row → List ℕ
row_line w = letter w.kind ∷ fields w.offset w.size

-- the lines of rows, one after the other
unfoldable pub row_lines : List Row → List ℕ
row_lines [] = []
row_lines (w ∷ ws) = row_line w ++ row_lines ws

-- the last line: `end`, the length of the input, the skipped bytes
unfoldable pub end_line : ℕ → ℕ → List ℕ
end_line size skipped = (101 ∷ 110 ∷ 100 ∷ []) ++ fields size skipped

-- the whole output for an input that is too long: `refused`, tab, `4`
unfoldable pub refused_line : List ℕ
refused_line = 114 ∷ 101 ∷ 102 ∷ 117 ∷ 115 ∷ 101 ∷ 100 ∷ tab ∷ 52 ∷ line_feed ∷ []
