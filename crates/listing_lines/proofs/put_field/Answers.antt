-- `listing_lines::put_field` meets its contract: a tab, then the number.
use Rattle.std.proofs.Common.{arith}
use Rattle.listing.proofs.DecimalLaws.{length_decimal}
use Rattle.listing.proofs.LineLaws.{length_field}
use Rattle.listing.specs.Lines.{field}
use Rattle.listing.proofs.PutLaws.{puts_then, puts_length}
use Rattle.listing_lines.proofs.put_field.Goals as goal

pub put_byte-digits-requires : goal.put_byte-digits-requires
put_byte-digits-requires c = omega (arith, length_field c.args.v)

pub put_decimal-requires : goal.put_decimal-requires
put_decimal-requires c =
    let v = c.args.v in let e = c.put_byte-digits.ensures in
    omega (arith, length_field v, length_decimal v, e.ends, puts_length e)

pub returns : goal.returns
unfolding field
returns c = puts_then c.put_byte-digits.ensures c.put_decimal.ensures
