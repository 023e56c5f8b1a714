use Rattle.std.proofs.Common.{◌-◌, ◌*◌}
use Rattle.form.proofs.PieceLaws.{Left}
use Rattle.sirad.specs.Classes.{Char}
use Rattle.sirad.specs.Sirad.{run}
use Rattle.sirad_pieces.proofs.chars.Given as goal

abbrev pub invariant-loop : goal.invariant-loop
invariant-loop l = Left (run l.n Char) l.from (run (l.n - 64 * l.counter) Char) l.at l.s
