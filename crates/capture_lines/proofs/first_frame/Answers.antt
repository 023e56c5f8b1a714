-- `capture_lines::first_frame` meets its contract. A table of three zeros becomes the first row, or stays.
use Rattle.std.proofs.Common.{arith}
use Rattle.capture.proofs.LineLaws.{first_stored, first_some, first_none}
use Rattle.capture_lines.proofs.first_frame.Goals as goal

pub returns-then-size-eq0 : goal.returns-then-size-eq0
returns-then-size-eq0 c =
    let a = c.args in
    first_none a.d _ _ (first_stored a.d _ _ _ _ c.number_of-number.ensures (omega arith) c.closed_reading.ensures) c.if-size-eq0.true

pub returns : goal.returns
returns c =
    let a = c.args in
    first_some a.d _ _ (first_stored a.d _ _ _ _ c.number_of-number.ensures (omega arith) c.closed_reading.ensures) c.if-size-eq0.false
