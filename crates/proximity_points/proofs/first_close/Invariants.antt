use Rattle.proximity.proofs.PointLaws.{Scanning}
use Rattle.proximity_points.proofs.first_close.Given as goal

abbrev pub invariant-loop-i : goal.invariant-loop-i
invariant-loop-i l = Scanning l.limit l.points l.count l.i
