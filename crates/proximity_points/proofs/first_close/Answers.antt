-- `proximity_points::first_close` meets its contract: the points from here on give what all give.
use native.Mathlib.Omega.{arith}
use Rattle.proximity.proofs.PointLaws.{scanning_start, scanning_on, scanning_found, scanning_end}
use Rattle.proximity_points.proofs.first_close.Goals as goal

pub loop-i-init : goal.loop-i-init
loop-i-init c = scanning_start _ _ _

pub returns-then-is_close : goal.returns-then-is_close
returns-then-is_close c =
    scanning_found _ _ _ c.loop-i.invariant (omega arith) (omega arith) c.is_close.ensures c.if-is_close.true

pub loop-i-preserved : goal.loop-i-preserved
loop-i-preserved c = scanning_on _ _ _ c.loop-i.invariant (omega arith) (omega arith) c.is_close.ensures c.if-is_close.false

pub returns : goal.returns
returns c = scanning_end _ _ _ c.loop-i.invariant (omega arith)
