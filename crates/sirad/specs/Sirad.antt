-- The SiRad wire as a form: `judge sirad 0` is its judgement (paper 01, "SiRad"; paper 02, (ii)).
use Rattle.std.specs.Prelude.{Bool, true, false, cond, ◌||◌, List, [], ◌∷◌, ℕ, zero, suc, ◌+◌, ◌*◌, eqb}
use Rattle.digits.specs.Bytes.{is_hex}
use Rattle.digits.specs.Hex.{digit}
use Rattle.form.specs.Form.{Form, whole, byte, ◌>>=◌, ◌>>◌}
use Rattle.form.specs.Pieces.{one}
use Rattle.sirad.specs.Classes.{Class, Hex, Char, Zero, Cr, Lf, accepts, reason}
use Rattle.sirad.specs.declared.Kind.{Kind}
use Rattle.sirad.specs.declared.Kind.TheVariants.{Sized, Targets, Status, Flags, Unknown}
use Rattle.sirad.specs.Rows.{Piece, hex, char, spare, slot, cr, lf, behind_number, target_classes}
use Rattle.sirad.specs.Rows.{data_pieces, t_pieces, u_pieces, e_pieces}

-- -- Parts of a body

-- bytes of these classes, one after the other; the value is v
unfoldable pub lay : List Class → ℕ → Form
lay [] v = whole v
lay (c ∷ cs) v = byte (reason c) (accepts c) (λ _. lay cs v)

-- n bytes of one class
unfoldable pub run : ℕ → Class → Form
run zero c = whole 0
run (suc n) c = byte (reason c) (accepts c) (λ _. run n c)

-- a T block that is a target
unfoldable pub target : Form
target = lay target_classes 0

-- behind the first byte of a block: the value 0 commits the other thirteen to it, a digit is the number of a target (paper 02, (ii))
abbrev pub behind_first : ℕ → Form
behind_first b = cond (eqb b 0) (run 13 Zero) (lay behind_number 0)

-- one block of a T frame
unfoldable pub block : Form
block = do
  b ← one 12 (λ b. eqb b 0 || is_hex b)
  behind_first b

-- a piece's bytes
abbrev pub piece : Piece → Form
piece (hex n) = run n Hex
piece char = run 1 Char
piece spare = run 1 Char
piece slot = block
piece cr = run 1 Cr
piece lf = run 1 Lf

-- the bytes of a row, piece by piece, of a frame of this kind
unfoldable pub row : List Piece → ℕ → Form
row [] kind = whole kind
row (p ∷ ps) kind = do
  piece p
  row ps kind

-- format and gain, in front of T and U
abbrev pub head : Form
head = lay (Hex ∷ Char ∷ []) 0

-- n hex digits; the value is their number, with v in front of them
unfoldable pub number : ℕ → ℕ → Form
number zero v = whole v
number (suc n) v = byte 12 is_hex (λ b. number n (v * 16 + digit b))

-- -- The frames

-- the size n by 4 hex digits, then what follows it (paper 01, "SiRad", kinds 1 to 3)
abbrev pub sized : ℕ → Form
sized kind = do
  n ← number 4 0
  row (data_pieces n) kind

-- the identifiers R, P, C, T, U, E
abbrev pub kind_of : ℕ → Kind
kind_of b =
    cond (eqb b 82) (Sized 1)
    (cond (eqb b 80) (Sized 2)
    (cond (eqb b 67) (Sized 3) (cond (eqb b 84) Targets (cond (eqb b 85) Status (cond (eqb b 69) Flags Unknown)))))

-- the byte is one of the identifiers
abbrev pub known : Kind → Bool
known (Sized kind) = true
known Targets = true
known Status = true
known Flags = true
known Unknown = false

-- what follows the identifier, up to the stop marker; `Unknown` is refused before it
unfoldable pub body : Kind → Form
body (Sized kind) = sized kind
body Targets = row t_pieces 4
body Status = row u_pieces 5
body Flags = row e_pieces 6
body Unknown = whole 0

-- a frame is byte 33, an identifier, a body, then 13 and 10
unfoldable pub sirad : Form
sirad = do
  one 10 (λ b. eqb b 33)
  b ← one 11 (λ b. known (kind_of b))
  body (kind_of b)
