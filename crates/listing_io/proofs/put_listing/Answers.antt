-- `listing_io::put_listing` meets its contract: every listing fits.
use Rattle.std.proofs.Common.{◌≤◌, length, subst, arith}
use Rattle.digits.specs.Stores.{written_of}
use Rattle.listing.specs.Internal.{Puts}
use Rattle.listing.specs.Listing.{listing}
use Rattle.listing.proofs.ListingLaws.{listing_most, writes_ok, writes_puts}
use Rattle.listing_io.proofs.put_listing.Goals as goal

pub unwrap-requires : goal.unwrap-requires
unwrap-requires c = writes_ok _ c.write_listing.ensures (omega (arith, listing_most c.args.d c.args.bytes.now))

pub returns : goal.returns
returns c =
    let most = listing_most c.args.d c.args.bytes.now in
    subst (λ r. Puts (listing c.args.d c.args.bytes.now) c.args.out.now 0 (written_of r).size c.write_listing.new.out)
    c.unwrap.ensures (writes_puts c.write_listing.ensures (omega (arith, most)))
