-- The four bytes make the number.
use mathlib.Core.Path.{◌∙◌}
use native.Mathlib.Omega.{arith}
use Rattle.form.proofs.PieceLaws.{little_there}
use Rattle.mmwave_inside.proofs.field.Goals as goal

pub returns : goal.returns
returns c =
    let a = c.args in
    c.join.ensures ∙ little_there a.at a.s.now (omega arith)
