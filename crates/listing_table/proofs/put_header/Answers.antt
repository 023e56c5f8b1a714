-- `listing_table::put_header` meets its contract.
use Rattle.std.proofs.Common.{arith}
use Rattle.listing.specs.Lines.{header_line}
use Rattle.listing.proofs.PutLaws.{puts_within}
use Rattle.listing_table.proofs.put_header.Goals as goal

pub returns : goal.returns
unfolding header_line
returns c = puts_within c.put_bytes.ensures (omega arith)
