use Rattle.listing.proofs.LineLaws.{Listing}
use Rattle.listing_table.proofs.put_rows.Given as goal

abbrev pub invariant-loop-i : goal.invariant-loop-i
invariant-loop-i l = Listing l.table l.initial.out l.out l.from l.rows l.i l.at
