-- `units::inside` meets its contract: off the half the parts round by themselves, without a rest below it they are a number of halves.
use Rattle.std.proofs.Common.{◌∙◌, sym}
use Rattle.units.proofs.Machine.{off_half, half_over, in_halves, parts_are}
use Rattle.units.proofs.inside.Goals.{else-eq-via-then-eq+else-parts-eq0, else-eq-via-else-eq}
use Rattle.units.proofs.inside.Goals as goal

pub returns-then-parts-eq0 : goal.returns-then-parts-eq0
returns-then-parts-eq0 c =
    c.rounded.ensures ∙ in_halves _ _ c.if-parts-eq0.true ∙ parts_are _ _ c.requires _ _ c.parts_of-parts.ensures.exact

pub returns : goal.returns
returns c =
    elim c.else-eq.branch [
      | else-eq-via-then-eq+else-parts-eq0 w ↦ off_half _ _ w.if-parts-eq0.false
      | else-eq-via-else-eq w ↦ half_over _ _ (sym c.eq.ensures ∙ w.if-eq.false)
    ]
    ∙ parts_are _ _ c.requires _ _ c.parts_of-parts.ensures.exact
