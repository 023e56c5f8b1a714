-- `listing_table::put_rows` meets its contract. The loop keeps that storing the lines of the rows that are left completes the text.
use Rattle.std.proofs.Common.{arith, rules}
use Rattle.listing.proofs.LineLaws.{reached_fits, listing_start, listing_next, listing_over}
use Rattle.listing.proofs.PutLaws.{puts_length}
use Rattle.listing_table.proofs.put_rows.Goals as goal

pub loop-i-init : goal.loop-i-init
loop-i-init c = listing_start _ _ _ _

pub put_row-at-requires : goal.put_row-at-requires
put_row-at-requires c =
    let l = c.loop-i in let a = c.args in
    let f = reached_fits a.table.now a.from a.rows l.i l.at l.invariant.reached (omega arith) in
    record { index_in_bounds = omega arith; line_fits = omega (arith, l.invariant.same_length) }

pub loop-i-preserved : goal.loop-i-preserved
loop-i-preserved c =
    let l = c.loop-i in let a = c.args in
    let e = c.put_row-at.ensures in
    listing_next a.table.now a.out.now a.from a.rows _ _ l.i _ _ l.invariant (omega arith) e (puts_length e)

pub shape_of-out : goal.shape_of-out
shape_of-out c = search rules

pub returns : goal.returns
returns c =
    let l = c.loop-i in let a = c.args in
    listing_over a.table.now a.out.now a.from a.rows _ l.i _ l.invariant (omega arith)
