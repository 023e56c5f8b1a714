-- No byte is there, it is refused, or it passes.
use Rattle.std.proofs.Common.{sym, ap, ◌∙◌, ltb-false}
use Rattle.form.specs.declared.Judgement.TheVariants.{Bad}
use Rattle.form.proofs.PieceLaws.{judges}
use Rattle.sirad.proofs.Runs.{one_ends, one_hit, one_miss}
use Rattle.sirad_bytes.proofs.byte_of.Goals as goal

pub returns-in_default : goal.returns-in_default
returns-in_default g c = judges (one_ends _ _ _ _ (ltb-false _ _ (sym c.in_default.ensures.lookup.0)))

pub returns-then-not-is_of : goal.returns-then-not-is_of
returns-then-not-is_of g c =
    let there = c.in-Some.ensures.lookup.3 in
    judges (ap Bad c.reason.ensures
    ∙ one_miss _ _ _ _ there.0 (there.1 0) (sym c.is_of.ensures ∙ c.if-not-is_of.true))

pub returns : goal.returns
returns g c =
    let there = c.in-Some.ensures.lookup.3 in
    judges (one_hit _ _ _ _ there.0 (there.1 0) (sym c.is_of.ensures ∙ c.if-not-is_of.false))
