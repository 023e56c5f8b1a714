-- `listing_table::row_size` meets its contract: a letter, then the numbers.
use Rattle.listing.specs.Internal.{first_of}
use Rattle.std.proofs.Common.{drop, arith}
use Rattle.listing.proofs.LineLaws.{length_row_at, row_most}
use Rattle.listing_table.proofs.row_size.Goals as goal

pub overflow_add-result : goal.overflow_add-result
overflow_add-result c =
    let a = c.args in
    let n = length_row_at a.table.now a.index in
    omega (arith, c.fields_size.ensures, n, row_most (first_of (drop a.index a.table.now)))

pub returns : goal.returns
returns c =
    let a = c.args in
    omega (arith, c.fields_size.ensures, length_row_at a.table.now a.index)
