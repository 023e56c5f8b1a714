-- Four digits give a number below 16 ^ 4.
use Rattle.std.proofs.Common.{arith}
use Rattle.digits.proofs.HexLaws.{hex_at_below}
use Rattle.hex_numbers.proofs.number_at.Goals as goal

pub overflow_cast-result : goal.overflow_cast-result
overflow_cast-result c = let a = c.args in omega (arith, c.hex_at.ensures, hex_at_below 4 a.at a.s.now)

pub returns : goal.returns
returns c = c.hex_at.ensures
