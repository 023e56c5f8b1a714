-- The Horner sum of the code is the definition, unfolded.
use native.Mathlib.Omega.{arith}
use Rattle.digits.specs.LittleEndian.{from_little}
use Rattle.numbers.proofs.join.Goals as goal

pub returns : goal.returns
unfolding from_little
returns c = omega arith
