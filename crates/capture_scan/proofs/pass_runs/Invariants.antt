use Rattle.std.proofs.Common.{◌≤◌, ◌-◌, length}
use Rattle.capture.specs.Internal.{Clear}
use Rattle.capture_scan.proofs.pass_runs.Given as goal

abbrev pub invariant-loop-at : goal.invariant-loop-at
invariant-loop-at l = (l.from ≤ l.at) × (l.at ≤ length l.bytes) × Clear l.mark l.from l.at l.bytes

abbrev pub decreases-loop-at : goal.decreases-loop-at
decreases-loop-at l = length l.bytes - l.at
