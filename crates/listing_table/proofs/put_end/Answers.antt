-- `listing_table::put_end` meets its contract: the word, then the numbers.
use Rattle.std.proofs.Common.{arith}
use Rattle.listing.specs.Lines.{end_line}
use Rattle.listing.proofs.PutLaws.{lays_puts}
use Rattle.listing_table.proofs.put_end.Goals as goal

pub returns : goal.returns
unfolding end_line
returns c = lays_puts c.put_line.ensures (omega arith)
