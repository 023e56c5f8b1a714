use Rattle.std.proofs.Common.{◌≤◌}
use Rattle.capture.specs.Internal.{Clear}
use Rattle.capture_scan.proofs.few.Given as goal

abbrev pub invariant-loop-at : goal.invariant-loop-at
invariant-loop-at l = (l.from ≤ l.at) × Clear l.mark l.from l.at l.bytes
