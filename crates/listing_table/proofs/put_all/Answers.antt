-- `listing_table::put_all` meets its contract: the first line, the rows' lines, the last line.
use Rattle.std.proofs.Common.{arith}
use Rattle.listing.specs.Internal.{table_text}
use Rattle.listing.proofs.PutLaws.{puts_then, puts_length}
use Rattle.listing.proofs.LineLaws.{length_table_text, length_end, length_header}
use Rattle.listing_table.proofs.put_all.Goals as goal

pub put_header-first-requires : goal.put_header-first-requires
put_header-first-requires c =
    let a = c.args in
    omega (arith, length_table_text a.rows a.table.now a.size a.skipped)

pub put_rows-last-requires : goal.put_rows-last-requires
put_rows-last-requires c =
    let a = c.args in let e = c.put_header-first.ensures in
    let n = length_table_text a.rows a.table.now a.size a.skipped in
    record { rows_in_bounds = omega arith; lines_fit = omega (arith, n, length_header, e.ends, puts_length e) }

pub put_end-requires : goal.put_end-requires
put_end-requires c =
    let a = c.args in
    let e = c.put_header-first.ensures in let f = c.put_rows-last.ensures in
    let n = length_table_text a.rows a.table.now a.size a.skipped in
    omega (arith, n, length_header, length_end a.size a.skipped, e.ends, f.ends, puts_length e, puts_length f)

pub returns : goal.returns
unfolding table_text
returns c = puts_then c.put_header-first.ensures (puts_then c.put_rows-last.ensures c.put_end.ensures)
