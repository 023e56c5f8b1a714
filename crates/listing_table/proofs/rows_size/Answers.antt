-- `listing_table::rows_size` meets its contract. The loop keeps that the lines that are left complete the count.
use Rattle.std.proofs.Common.{ℕ, ◌+◌, ap, ◌∙◌, zero-add, arith}
use Rattle.listing.proofs.LineLaws.{reached_start, reached_next, reached_fits, reached_over, table_most}
use Rattle.listing_table.proofs.rows_size.Goals as goal

pub loop-i-init : goal.loop-i-init
loop-i-init c = reached_start _ _ _

pub overflow_add-size : goal.overflow_add-size
overflow_add-size c =
    let l = c.loop-i in let a = c.args in
    let f = reached_fits a.table.now 0 a.rows l.i l.size l.invariant (omega arith) in
    omega (arith, c.row_size-size.ensures, table_most a.rows a.table.now)

pub loop-i-preserved : goal.loop-i-preserved
loop-i-preserved c =
    let l = c.loop-i in
    reached_next _ _ _ l.i l.size _ l.invariant (omega arith) (ap (λ (n : ℕ). l.size + n) c.row_size-size.ensures)

pub returns : goal.returns
returns c =
    let l = c.loop-i in
    reached_over _ _ _ l.i l.size l.invariant (omega arith) ∙ zero-add _
