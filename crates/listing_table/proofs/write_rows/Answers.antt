-- `listing_table::write_rows` meets its contract: the text fits, or nothing is written.
use Rattle.std.proofs.Common.{arith}
use Rattle.listing.proofs.ListingLaws.{writes_short, writes_done}
use Rattle.listing_table.proofs.write_rows.Goals as goal

pub returns-then-out-text_size : goal.returns-then-out-text_size
returns-then-out-text_size c = writes_short _ _ (omega (arith, c.text_size.ensures))

pub returns : goal.returns
returns c = writes_done c.put_all.ensures (omega arith)
