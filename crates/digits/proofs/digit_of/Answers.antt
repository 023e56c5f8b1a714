-- Each return is one law: a figure, a letter, no digit.
use mathlib.Core.Path.{sym, ◌∙◌}
use native.Mathlib.Omega.{arith}
use Rattle.digits.proofs.Choices.{within_bounds}
use Rattle.digits.proofs.HexLaws.{digit_figure, digit_letter, digit_none}
use Rattle.digits.proofs.digit_of.Goals as goal

pub overflow_sub-result : goal.overflow_sub-result
overflow_sub-result c = (within_bounds _ _ _ (sym c.between.ensures ∙ c.if-between.true)).0

pub returns-then-between : goal.returns-then-between
returns-then-between c = digit_figure c.args.b (sym c.between.ensures ∙ c.if-between.true)

pub overflow_sub-result-then-between-2 : goal.overflow_sub-result-then-between-2
overflow_sub-result-then-between-2 c =
    omega (arith, within_bounds 65 70 c.args.b (sym c.between-2.ensures ∙ c.if-between-2.true))

pub returns-then-between-2 : goal.returns-then-between-2
returns-then-between-2 c =
    let no-figure = sym c.between.ensures ∙ c.if-between.false in
    digit_letter c.args.b no-figure (sym c.between-2.ensures ∙ c.if-between-2.true)

pub returns : goal.returns
returns c =
    let no-figure = sym c.between.ensures ∙ c.if-between.false in
    digit_none c.args.b no-figure (sym c.between-2.ensures ∙ c.if-between-2.false)
