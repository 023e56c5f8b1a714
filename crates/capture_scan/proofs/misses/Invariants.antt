use Rattle.std.proofs.Common.{◌≡◌}
use Rattle.capture.specs.Internal.{clear_for}
use Rattle.capture_scan.proofs.misses.Given as goal

abbrev pub invariant-loop-i : goal.invariant-loop-i
invariant-loop-i l = l.ok ≡ clear_for l.mark l.from l.i l.bytes
