-- `listing_lines::fields_size` meets its contract: two tabs, two widths, a line feed.
use Rattle.std.proofs.Common.{arith}
use Rattle.listing.proofs.LineLaws.{length_fields}
use Rattle.listing.proofs.DecimalLaws.{width_most}
use Rattle.listing_lines.proofs.fields_size.Goals as goal

pub overflow_add-result : goal.overflow_add-result
overflow_add-result c = omega (arith, c.width_of.ensures, width_most c.args.a)

pub overflow_add-result-2 : goal.overflow_add-result-2
overflow_add-result-2 c =
    let a = c.args in
    omega (arith, c.width_of.ensures, c.width_of-2.ensures, width_most a.a, width_most a.b)

pub returns : goal.returns
returns c =
    let a = c.args in
    omega (arith, c.width_of.ensures, c.width_of-2.ensures, length_fields a.a a.b)
