-- The word that a rule selects by is one of the first two.
use Rattle.std.proofs.Common.{arith, sym, ◌∙◌}
use Rattle.demorad.proofs.RuleLaws.{index_small}
use Rattle.demorad.proofs.command_refusal.Goals as goal

pub offset_bounds-words-selection : goal.offset_bounds-words-selection
offset_bounds-words-selection c =
    let small = index_small _ _ (sym c.rule_of.ensures ∙ c.in-Some.is) _ c.in-Some-selection.is in
    omega arith

pub bounds-words-selection : goal.bounds-words-selection
bounds-words-selection c =
    let small = index_small _ _ (sym c.rule_of.ensures ∙ c.in-Some.is) _ c.in-Some-selection.is in
    omega arith
