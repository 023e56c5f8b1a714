-- `coordinate_bounds::greatest` meets its contract: each turn halves the bits between one that is within and one that is not.
use native.Mathlib.Omega.{arith}
use mathlib.Core.Path.{sym, ◌∙◌}
use Rattle.coordinate_bounds.proofs.BoundLaws.{narrowed_start, narrowed_up, narrowed_down, narrowed_end}
use Rattle.coordinate_bounds.proofs.greatest.Goals as goal

pub loop-low-init : goal.loop-low-init
loop-low-init c = narrowed_start _ _

pub loop-low-preserved-then-is_within : goal.loop-low-preserved-then-is_within
loop-low-preserved-then-is_within c =
    let inv = c.loop-low.invariant in
    narrowed_up _ _ _ _ _ (omega arith) (omega arith) inv (sym c.is_within.ensures ∙ c.if-is_within.true)

pub loop-low-preserved : goal.loop-low-preserved
loop-low-preserved c =
    let inv = c.loop-low.invariant in
    narrowed_down _ _ _ _ _ (omega arith) (omega arith) inv (sym c.is_within.ensures ∙ c.if-is_within.false)

pub returns : goal.returns
returns c = narrowed_end _ _ _ _ (omega arith) c.loop-low.invariant
