-- The choice between two lines (paper 01, "Two lines").
use Rattle.std.specs.Prelude.{Bool, true, false, cond, ◌≡◌, List, [], ◌∷◌, ℕ, ◌+◌, ltb, length, take, drop}
use Rattle.std.specs.Borrow.{Bor}
use Rattle.reading.specs.Reading.{reading}
use Rattle.reading.specs.declared.Row.{Row}
use Rattle.capture.specs.Dialects.{judge_of}
use Rattle.capture.specs.Entries.{max_bytes}
use Rattle.std.specs.declared.option.Option.{Option}
use Rattle.std.specs.declared.option.Option.TheVariants.{Some, None}
use Rattle.capture.specs.declared.Dialect.{Dialect}
use Rattle.capture.specs.declared.Part.{Part}

-- the rows of the closed reading, with room for all of them
unfoldable pub closed_rows : Dialect → List ℕ → List Row
closed_rows d bs = (reading (judge_of d) true (length bs) bs).rows

-- the first of the rows, where there is one
abbrev pub first_row : List Row → Option Row
first_row [] = None
first_row (w ∷ ws) = Some w

-- the part of a line that is a row's frame
abbrev pub row_part : Bool → Row → Part
row_part standby w = record { standby = standby; offset = w.offset; size = w.size }

-- an empty part of the main line
abbrev pub empty_part : Part
empty_part = record { standby = false; offset = 0; size = 0 }

-- the first row of the main line; where it has none, that of the standby line; else an empty part of the main line
unfoldable pub chosen : List Row → List Row → Part
chosen (w ∷ ws) others = row_part false w
chosen [] (w ∷ ws) = row_part true w
chosen [] [] = empty_part

-- which part of which line; an empty one for a dialect or a line (either one) that 1 or 3 refuses
unfoldable pub part_of : Option Dialect → List ℕ → List ℕ → Part
part_of None main standby = empty_part
part_of (Some d) main standby =
    cond (ltb max_bytes (length main)) empty_part
    (cond (ltb max_bytes (length standby)) empty_part (chosen (closed_rows d main) (closed_rows d standby)))

-- the line that a part is of
abbrev pub line_of : {A : Type 0} → Part → A → A → A
line_of p main standby = cond p.standby standby main

-- the bytes of a part
abbrev pub bytes_of : Part → List ℕ → List ℕ → List ℕ
bytes_of p main standby = take p.size (drop p.offset (line_of p main standby))

-- the reference is to the part itself: it points into the part's own line, at its offset, and to its bytes (paper 01, "Two lines")
pub record RefersTo (p : Part) (main standby r : Bor (List ℕ)) : Type 0 where
  pub block : r.ref_ptr.0 ≡ (line_of p main standby).ref_ptr.0
  pub place : r.ref_ptr.1 ≡ p.offset + (line_of p main standby).ref_ptr.1
  pub bytes : r.now ≡ bytes_of p main.now standby.now
