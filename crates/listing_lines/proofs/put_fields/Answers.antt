-- `listing_lines::put_fields` meets its contract: two fields and the end of the line.
use Rattle.std.proofs.Common.{arith}
use Rattle.listing.specs.Lines.{fields}
use Rattle.listing.proofs.LineLaws.{length_field, length_fields}
use Rattle.listing.proofs.PutLaws.{puts_then, puts_length}
use Rattle.listing_lines.proofs.put_fields.Goals as goal

pub put_field-second-requires : goal.put_field-second-requires
put_field-second-requires c =
    let a = c.args in
    omega (arith, length_fields a.a a.b, length_field a.a)

pub put_field-end-requires : goal.put_field-end-requires
put_field-end-requires c =
    let a = c.args in let e = c.put_field-second.ensures in
    omega (arith, length_fields a.a a.b, length_field a.a, length_field a.b, e.ends, puts_length e)

pub put_byte-requires : goal.put_byte-requires
put_byte-requires c =
    let a = c.args in
    let e = c.put_field-second.ensures in let f = c.put_field-end.ensures in
    omega (arith, length_fields a.a a.b, length_field a.a, length_field a.b, e.ends, f.ends, puts_length e, puts_length f)

pub returns : goal.returns
unfolding fields
returns c = puts_then c.put_field-second.ensures (puts_then c.put_field-end.ensures c.put_byte.ensures)
