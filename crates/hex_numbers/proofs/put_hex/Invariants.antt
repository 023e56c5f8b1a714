-- Storing the digits that are left gives what storing all of them gave.
use Rattle.std.proofs.Common.{◌≡◌}
use Rattle.digits.specs.Hex.{hex_digits}
use Rattle.digits.specs.Stores.{stored}
use Rattle.hex_numbers.proofs.put_hex.Given as goal

abbrev pub invariant-loop-i : goal.invariant-loop-i
invariant-loop-i l = stored l.out l.at (hex_digits l.i l.rest) ≡ stored l.initial.out l.at (hex_digits l.n l.v)
