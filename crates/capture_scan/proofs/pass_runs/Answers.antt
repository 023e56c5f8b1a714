-- `capture_scan::pass_runs` meets its contract. The bytes passed so far are clear of the mark.
use Rattle.std.proofs.Common.{sym, ◌∙◌, arith}
use Rattle.capture.proofs.ScanLaws.{clear_none, clear_join, clear_true}
use Rattle.capture_scan.proofs.pass_runs.Goals as goal

pub loop-at-init : goal.loop-at-init
loop-at-init c = (omega arith, omega arith, clear_none _ _ _)

pub loop-at-preserved : goal.loop-at-preserved
loop-at-preserved c =
    let clear = clear_true _ _ _ _ (sym c.misses-clear.ensures ∙ c.if-clear.true) in
    (omega arith, omega arith, clear_join _ _ _ _ _ c.loop-at.invariant.2 clear)
