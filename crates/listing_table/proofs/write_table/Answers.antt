-- `listing_table::write_table` meets its contract.
use Rattle.listing_table.proofs.write_table.Goals as goal

pub write_rows-requires : goal.write_rows-requires
write_rows-requires c = let held = c.held_rows-held.ensures in record { rows_bound = held.1; rows_in_bounds = held.2 }

pub returns : goal.returns
returns c = rw (← c.held_rows-held.ensures.0) c.write_rows.ensures
