use Rattle.std.proofs.Common.{◌-◌, ◌^◌, ◌<◌}
use Rattle.form.proofs.PieceLaws.{Left}
use Rattle.sirad.specs.Sirad.{number}
use Rattle.sirad_judge.proofs.hex_number.Given as goal

abbrev pub invariant-loop : goal.invariant-loop
invariant-loop l = record {
  small : l.value < 16 ^ l.counter;
  rest : Left (number l.n 0) l.from (number (l.n - l.counter) l.value) l.at l.s;
}
