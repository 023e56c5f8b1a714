use Prim.Native.Nat.{◌-◌}
use Rattle.coordinate_bounds.proofs.BoundLaws.{Narrowed}
use Rattle.coordinate_bounds.proofs.greatest.Given as goal

abbrev pub invariant-loop-low : goal.invariant-loop-low
invariant-loop-low l = Narrowed l.edition l.distance l.low l.high

abbrev pub decreases-loop-low : goal.decreases-loop-low
decreases-loop-low l = l.high - l.low
