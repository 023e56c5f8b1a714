-- Each frame's body as a row of pieces, from the byte behind the identifier to the stop marker
-- (paper 01, "SiRad"; paper 02, (ii); document 000, figures 4 to 6; document 003, error frame).
-- The judgement, and the field readers and writers, go by these rows.
use Rattle.std.specs.Prelude.{List, [], ◌∷◌, ◌++◌, cond, ℕ, zero, suc, eqb, leb, drop, get_or, replicate}
use Rattle.sirad.specs.Classes.{Class, Hex, Char, Zero, Cr, Lf}

-- a number of n hex digits, a character, a reserved byte, a T block (a target or none), the two stop markers
pub data Piece : Type 0 where
  hex : ℕ → Piece
  char : Piece
  spare : Piece
  slot : Piece
  cr : Piece
  lf : Piece

-- -- The classes of the bytes, which the bytes themselves choose

-- a target behind its number: distance, magnitude, phase, 4 reserved
abbrev pub behind_number : List Class
behind_number = Hex ∷ Hex ∷ Hex ∷ Hex ∷ Char ∷ Hex ∷ Hex ∷ Hex ∷ Hex ∷ Char ∷ Char ∷ Char ∷ Char ∷ []

-- a target, 14 bytes: number, then the others
abbrev pub target_classes : List Class
target_classes = Hex ∷ behind_number

-- a T block by its first byte: the value 0 commits the other thirteen to it, anything else is a target (paper 02, (ii))
abbrev pub block_classes : ℕ → List Class
block_classes b = cond (eqb b 0) (replicate 14 Zero) target_classes

-- a piece's classes, in the bytes from it on; a reserved byte must be a character (paper 01, "SiRad", our rule)
abbrev pub piece_classes : Piece → List ℕ → List Class
piece_classes (hex n) bs = replicate n Hex
piece_classes char bs = Char ∷ []
piece_classes spare bs = Char ∷ []
piece_classes slot bs = block_classes (get_or bs 0 0)
piece_classes cr bs = Cr ∷ []
piece_classes lf bs = Lf ∷ []

-- how many of these bytes are the piece's
abbrev pub width : Piece → List ℕ → ℕ
width (hex n) bs = n
width char bs = 1
width spare bs = 1
width slot bs = 14
width cr bs = 1
width lf bs = 1

-- a row's classes, in the bytes from it on
unfoldable pub classes : List Piece → List ℕ → List Class
classes [] bs = []
classes (p ∷ ps) bs = piece_classes p bs ++ classes ps (drop (width p bs) bs)

-- -- The rows

-- every frame ends in 13 and 10
abbrev pub ending : List Piece
ending = cr ∷ lf ∷ []

-- n characters, and the end
unfoldable pub characters : ℕ → List Piece
characters zero = ending
characters (suc n) = char ∷ characters n

-- n blocks, and the end
unfoldable pub blocks : ℕ → List Piece
blocks zero = ending
blocks (suc n) = slot ∷ blocks n

-- what follows the size n in a frame R, P or C: 8 reserved, n characters
abbrev pub data_pieces : ℕ → List Piece
data_pieces n = spare ∷ spare ∷ spare ∷ spare ∷ spare ∷ spare ∷ spare ∷ spare ∷ characters n

-- R, P, C (kinds 1 to 3) with n characters: the size, then what follows it
abbrev pub r_pieces : ℕ → List Piece
r_pieces n = hex 4 ∷ data_pieces n

-- T (kind 4): format, gain, 16 blocks
abbrev pub t_pieces : List Piece
t_pieces = hex 1 ∷ char ∷ blocks 16

-- U (kind 5): format, gain, accuracy, max range, ramp time, bandwidth, time difference
abbrev pub u_pieces : List Piece
u_pieces = hex 1 ∷ char ∷ hex 4 ∷ hex 4 ∷ hex 4 ∷ hex 4 ∷ hex 4 ∷ ending

-- E (kind 6): flags
abbrev pub e_pieces : List Piece
e_pieces = hex 4 ∷ ending

-- the row of a kind from 1 to 6, with n the size field
abbrev pub row_of : ℕ → ℕ → List Piece
row_of kind n = cond (leb kind 3) (r_pieces n) (cond (eqb kind 4) t_pieces (cond (eqb kind 5) u_pieces e_pieces))
