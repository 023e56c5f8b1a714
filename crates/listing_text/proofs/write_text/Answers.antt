-- `listing_text::write_text` meets its contract: the text fits, or nothing is written.
use Rattle.std.proofs.Common.{arith}
use Rattle.listing.proofs.ListingLaws.{writes_short, writes_stored}
use Rattle.listing_text.proofs.write_text.Goals as goal

pub returns-then-out-text : goal.returns-then-out-text
returns-then-out-text c =
    let a = c.args in
    writes_short a.text.now a.out.now (omega arith)

pub returns : goal.returns
returns c = writes_stored c.put_bytes.ensures (omega arith)
