-- Frames as rows of pieces behind `!` and an identifier, one row for each kind (paper 01, "SiRad").
use Rattle.std.specs.Prelude.{cond, ◌≡◌, List, ◌∷◌, ◌++◌, ℕ, eqb, length, take, drop}
use Rattle.digits.specs.Hex.{hex_at}
use Rattle.form.specs.declared.Judgement.{Judgement}
use Rattle.form.specs.declared.Judgement.TheVariants.{Whole, Bad, Waiting}
use Rattle.form.specs.Form.{judge}
use Rattle.sirad.specs.Rows.{Piece, row_of}
use Rattle.sirad.specs.Sirad.{sirad}
use Rattle.sirad.specs.Table.{identifier}
use Rattle.sirad_fields.specs.Values.{values, written, blank}

-- -- Which frame the bytes are

-- the kind if the judgement is whole over size bytes, else 0
abbrev pub kind_over : ℕ → Judgement → ℕ
kind_over size (Whole kind n) = cond (eqb n size) kind 0
kind_over size (Bad reason) = 0
kind_over size Waiting = 0

-- the kind of the frame that the bytes are from first to last; 0 if they are not exactly one whole frame (paper 01, "Refusal numbers", 5)
unfoldable pub frame_kind : List ℕ → ℕ
frame_kind bs = kind_over (length bs) (judge sirad 0 bs)

-- -- Frames as rows

-- the row of the frame that the bytes are; a size field is the four digits behind the identifier
abbrev pub row_in : ℕ → List ℕ → List Piece
row_in kind bs = row_of kind (hex_at 4 2 bs)

-- the numbers that the frame carries, behind `!` and the identifier
abbrev pub numbers_in : ℕ → List ℕ → List ℕ
numbers_in kind bs = values (row_in kind bs) (drop 2 bs)

-- the frame for these numbers
abbrev pub frame_of : ℕ → ℕ → List ℕ → List ℕ
frame_of kind n vs = 33 ∷ identifier kind ∷ written (row_of kind n) vs

-- the frame with every reserved byte as `0`, and blocks of value 0 as `0` (paper 02, (ii))
abbrev pub blank_frame : ℕ → List ℕ → List ℕ
blank_frame kind bs = take 2 bs ++ blank (row_in kind bs) (drop 2 bs)

-- -- The round trips, for any kind of frame

-- bytes judged whole from first to last with this kind, of which a reader gives these fields (paper 01, "Refusal numbers")
pub record ReadsBack {A : Type 0} (kind : ℕ) (bytes : List ℕ) (read : List ℕ → A) (fields : A) : Type 0 where
  pub judged : judge sirad 0 bytes ≡ Whole kind (length bytes)
  pub reads : read bytes ≡ fields

-- the writer refuses no value that was read, and writes the frame read with reserved bytes and blocks of value 0 as `0`
-- (paper 01, "Refusal numbers"; paper 02, (ii))
pub record WritesBack (kind refusal : ℕ) (bytes frame : List ℕ) : Type 0 where
  pub fits : refusal ≡ 0
  pub same : bytes ≡ blank_frame kind frame
