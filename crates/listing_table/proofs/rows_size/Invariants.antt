use Rattle.listing.proofs.LineLaws.{Reached}
use Rattle.listing_table.proofs.rows_size.Given as goal

abbrev pub invariant-loop-i : goal.invariant-loop-i
invariant-loop-i l = Reached l.table 0 l.rows l.i l.size
