-- `listing_table::put_row` meets its contract: the letter, then the numbers.
use Rattle.std.proofs.Common.{arith}
use Rattle.listing.proofs.LineLaws.{puts_row}
use Rattle.listing_table.proofs.put_row.Goals as goal

pub returns : goal.returns
returns c =
    let a = c.args in
    puts_row a.table.now a.index _ c.letter_of-letter.ensures c.put_line.ensures (omega arith)
