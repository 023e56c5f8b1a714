-- `listing_lines::put_text` meets its contract: the text fits, so it is stored.
use Rattle.std.proofs.Common.{arith}
use Rattle.listing.proofs.PutLaws.{puts_within}
use Rattle.listing_lines.proofs.put_text.Goals as goal

pub returns : goal.returns
returns c = puts_within c.put_bytes.ensures (omega arith)
