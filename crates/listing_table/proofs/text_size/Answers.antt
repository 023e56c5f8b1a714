-- `listing_table::text_size` meets its contract: the first line, the rows' lines, the last line.
use Rattle.std.proofs.Common.{arith}
use Rattle.listing.proofs.LineLaws.{length_table_text, table_most, fields_most}
use Rattle.listing_table.proofs.text_size.Goals as goal

pub overflow_add-result : goal.overflow_add-result
overflow_add-result c =
    let a = c.args in
    omega (arith, c.rows_size-lines.ensures, table_most a.rows a.table.now)

pub overflow_add-result-2 : goal.overflow_add-result-2
overflow_add-result-2 c =
    let a = c.args in let e = c.rows_size-lines.ensures in
    omega (arith, e, table_most a.rows a.table.now, c.fields_size-last.ensures, fields_most a.size a.skipped)

pub returns : goal.returns
returns c =
    let a = c.args in
    let n = length_table_text a.rows a.table.now a.size a.skipped in
    omega (arith, c.rows_size-lines.ensures, c.fields_size-last.ensures, n)
