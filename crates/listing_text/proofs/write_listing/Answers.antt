-- `listing_text::write_listing` meets its contract: the input too long, or the lines of the closed reading.
use Rattle.std.proofs.Common.{arith}
use Rattle.listing.specs.Lines.{refused_line}
use Rattle.listing.proofs.ListingLaws.{listing_long, listing_whole}
use Rattle.listing_text.proofs.write_listing.Goals as goal

pub returns-then-bytes-gt-MAX_INPUT : goal.returns-then-bytes-gt-MAX_INPUT
unfolding refused_line
returns-then-bytes-gt-MAX_INPUT c =
    let a = c.args in
    listing_long a.d a.bytes.now a.out.now _ _ (omega arith) c.write_text.ensures

pub returns : goal.returns
returns c =
    let a = c.args in
    listing_whole a.d a.bytes.now a.out.now _ _ (omega arith) c.write_listed.ensures
