-- `listing_lines::put_byte` meets its contract: one store.
use Rattle.listing.proofs.PutLaws.{puts_byte}
use Rattle.listing_lines.proofs.put_byte.Goals as goal

pub returns : goal.returns
returns c = let a = c.args in puts_byte a.out.now a.at a.b
