use Rattle.std.proofs.Common.{◌-◌}
use Rattle.form.proofs.PieceLaws.{Left}
use Rattle.sirad.specs.Sirad.{run}
use Rattle.sirad_bytewise.proofs.span.Given as goal

abbrev pub invariant-loop : goal.invariant-loop
invariant-loop g l = Left (run l.n g.C.ByteClass.class) l.from (run (l.n - l.counter) g.C.ByteClass.class) l.at l.s
