-- The free field, and then its test.
use Rattle.std.proofs.Common.{◌<◌, ◌^◌, rules, sym, ◌∙◌}
use Rattle.form.specs.Pieces.{always}
use Rattle.form.proofs.ParsedLaws.{parsed_unread, parsed_taken, parsed_refused}
use Rattle.mmwave_pieces.proofs.checked_at.Goals as goal

pub returns-in_err-field : goal.returns-in_err-field
returns-in_err-field g c = λ test tells.
    parsed_unread (always c.args.reason) test _ _ c.number.ensures.answers c.from_residual.result c.in_err-field.was
    c.from_residual.ensures.1

pub returns-then-passes : goal.returns-then-passes
returns-then-passes g c = λ test tells.
    let small : c.in_ok-field.field.value < 2 ^ 32 = search rules in
    parsed_taken (always c.args.reason) test _ _ c.number.ensures.answers c.in_ok-field.was
    (sym (tells _ _ small c.passes.ensures) ∙ c.if-passes.true)

pub returns : goal.returns
returns g c = λ test tells.
    let small : c.in_ok-field.field.value < 2 ^ 32 = search rules in
    parsed_refused (always c.args.reason) test _ _ c.number.ensures.answers c.in_ok-field.was
    (sym (tells _ _ small c.passes.ensures) ∙ c.if-passes.false)
