-- Storing the digits that are left completes the number.
use Rattle.std.proofs.Common.{◌≡◌, length}
use Rattle.listing.specs.Decimal.{decimals, decimal}
use Rattle.digits.specs.Stores.{stored}
use Rattle.listing_lines.proofs.put_decimal.Given as goal

abbrev pub invariant-loop-left : goal.invariant-loop-left
invariant-loop-left l =
    (l.n ≡ length (decimal l.v)) × (stored l.out l.at (decimals l.left l.rest) ≡ stored l.initial.out l.at (decimal l.v))
