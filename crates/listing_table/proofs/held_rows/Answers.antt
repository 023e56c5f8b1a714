-- `listing_table::held_rows` meets its contract: one law for each way out.
use Rattle.std.proofs.Common.{arith}
use Rattle.listing.proofs.LineLaws.{held_many, held_few, held_all}
use Rattle.listing_table.proofs.held_rows.Goals as goal

pub returns-then-rows-gt-MAX_ROWS : goal.returns-then-rows-gt-MAX_ROWS
returns-then-rows-gt-MAX_ROWS c = (held_many _ _ c.if-rows-gt-MAX_ROWS.true, omega arith, omega arith)

pub returns-then-table-rows : goal.returns-then-table-rows
returns-then-table-rows c = (held_few _ _ (omega arith) c.if-table-rows.true, omega arith, omega arith)

pub returns : goal.returns
returns c = (held_all _ _ (omega arith) (omega arith), omega arith, omega arith)
