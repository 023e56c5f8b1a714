use Rattle.std.proofs.Common.{◌-◌}
use Rattle.form.proofs.PieceLaws.{Left}
use Rattle.sirad.specs.Rows.{blocks}
use Rattle.sirad.specs.Sirad.{row}
use Rattle.sirad_judge.proofs.blocks_from.Given as goal

abbrev pub invariant-loop : goal.invariant-loop
invariant-loop l = Left (row (blocks l.n) 4) l.from (row (blocks (l.n - l.counter)) 4) l.at l.s
