-- The first byte chooses the form.
use Rattle.std.proofs.Common.{sym, ◌∙◌, ltb-false}
use Rattle.form.proofs.PieceLaws.{judges}
use Rattle.sirad.proofs.FrameLaws.{block_ends, block_zeros, block_target}
use Rattle.sirad_bytewise.proofs.block_slowly.Goals as goal

pub returns-in-None : goal.returns-in-None
returns-in-None c = judges (block_ends _ _ (ltb-false _ _ (sym c.in-None.ensures.lookup.0)))

pub returns-in-Some-eq0 : goal.returns-in-Some-eq0
returns-in-Some-eq0 c =
    let there = c.in-Some-eq0.ensures.lookup.3 in
    judges (c.span.ensures.answers ∙ sym (block_zeros _ _ there.0 (sym (there.1 0) ∙ c.in-Some-eq0.field-0-test)))

pub returns-in-Some : goal.returns-in-Some
returns-in-Some c =
    let there = c.in-Some.ensures.lookup.3 in
    judges (c.target_slowly.ensures.answers ∙ sym (block_target _ _ there.0 (λ e. c.in-Some.field-0-test.1 (there.1 0 ∙ e))))
