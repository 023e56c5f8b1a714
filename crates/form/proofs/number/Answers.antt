-- The field is there or waits; its value is the number of its four bytes.
use native.Mathlib.Omega.{arith}
use Rattle.form.specs.Pieces.{any, always}
use Rattle.form.proofs.PieceLaws.{judges, four_waits, number_there}
use Rattle.form.proofs.number.Goals as goal

pub returns-then-s-at : goal.returns-then-s-at
returns-then-s-at c = judges (four_waits (always 0) any _ _ (omega arith))

pub returns-then-s-at-lt4 : goal.returns-then-s-at-lt4
returns-then-s-at-lt4 c = judges (four_waits (always 0) any _ _ (omega arith))

pub returns : goal.returns
returns c = judges (number_there _ _ (omega arith) c.join-v.ensures)
