-- `capture_lines::choose_line` meets its contract. The chosen part lies in the line that `line_of` hands back, and the answer is that part
-- of it.
use mathlib.Core.Path.{refl}
use native.Mathlib.Omega.{arith}
use Rattle.capture.proofs.LineLaws.{ends_in, refers}
use Rattle.capture.specs.Dialects.{dialect_of}
use Rattle.capture_lines.proofs.choose_line.Goals as goal

pub overflow_add-to : goal.overflow_add-to
overflow_add-to c =
    let a = c.args in
    omega (arith, ends_in (dialect_of a.dialect) a.main a.standby _ _ c.choose_part-p.ensures c.line_of-line.ensures)

pub slice_bounds-result-end : goal.slice_bounds-result-end
slice_bounds-result-end c =
    let a = c.args in
    ends_in (dialect_of a.dialect) a.main a.standby _ _ c.choose_part-p.ensures c.line_of-line.ensures

pub returns : goal.returns
returns c =
    let a = c.args in
    refers (dialect_of a.dialect) a.main a.standby _ _ c.choose_part-p.ensures c.line_of-line.ensures _ refl refl refl
