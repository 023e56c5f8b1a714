-- `listing_io::print_listing` meets its contract: the bytes gathered are bytes of the buffer, and have the listing of the input.
use Rattle.std.proofs.Common.{◌≡◌, length, sym, arith, length-take-le}
use Rattle.listing.proofs.ListingLaws.{listing_ends}
use Rattle.listing_io.proofs.PrintLaws.{put_front, listing_gathered, lists_whole, lists_first}
use Rattle.listing_io.proofs.print_listing.Goals as goal

pub slice_bounds-text-end : goal.slice_bounds-text-end
slice_bounds-text-end g c = listing_ends _ _ c.put_listing-end.ensures (omega arith)

pub slice_bounds-write_whole-end : goal.slice_bounds-write_whole-end
slice_bounds-write_whole-end g c = sym (length-take-le _ _ (listing_ends _ _ c.put_listing-end.ensures (omega arith)))

pub returns-then-printed-clause-lists : goal.returns-then-printed-clause-lists
returns-then-printed-clause-lists g c =
    let room : 65537 ≡ length c.gather.new.buffer = omega arith in
    let same = listing_gathered c.args.d _ c.gather.new.buffer c.in-Some.size c.in-Some.ensures.holds room in
    let put = c.put_listing-end in
    let text = put_front put.ensures (listing_ends _ _ put.ensures (omega arith)) in
    lists_whole c.args.d _ _ _ _ _ same text c.if-printed.ensures

pub returns-clause-lists : goal.returns-clause-lists
returns-clause-lists g c =
    let room : 65537 ≡ length c.gather.new.buffer = omega arith in
    let same = listing_gathered c.args.d _ c.gather.new.buffer c.in-Some.size c.in-Some.ensures.holds room in
    let put = c.put_listing-end in
    let text = put_front put.ensures (listing_ends _ _ put.ensures (omega arith)) in
    let part = c.if-printed.ensures in
    lists_first c.args.d _ _ _ _ _ part.0 same text part.1
