-- By the walk's number where all bytes are there.
use Rattle.std.proofs.Common.{arith}
use Rattle.form.proofs.PieceLaws.{judges}
use Rattle.mmwave.proofs.Within.{settled_whole, settled_bad}
use Rattle.mmwave_inside.proofs.judge_records.Goals as goal

pub returns-then-reason-eq0 : goal.returns-then-reason-eq0
returns-then-reason-eq0 c =
    judges (settled_whole _ _ _ _ c.kind_of.ensures c.walk_inside-reason.ensures c.if-reason-eq0.true (omega arith))

pub returns : goal.returns
returns c = judges (settled_bad _ _ _ c.walk_inside-reason.ensures c.if-reason-eq0.false)
