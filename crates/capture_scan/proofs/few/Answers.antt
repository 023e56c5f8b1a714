-- `capture_scan::few` meets its contract. The bytes passed so far are clear of the mark.
use Rattle.std.proofs.Common.{arith}
use Rattle.capture.proofs.ScanLaws.{clear_none, clear_join, clear_one}
use Rattle.capture_scan.proofs.few.Goals as goal

pub loop-at-init : goal.loop-at-init
loop-at-init c = (omega arith, clear_none _ _ _)

pub loop-at-preserved : goal.loop-at-preserved
loop-at-preserved c = (omega arith, clear_join _ _ _ _ _ c.loop-at.invariant.1 (clear_one _ _ _ c.if-bytes-at.false))
