-- A hex digit below `A` is a figure, any other a letter.
use Rattle.sirad.proofs.Numbers.{digit_figure, digit_letter}
use Rattle.sirad_judge.proofs.digit_of.Goals as goal

pub returns-then-b-lt65 : goal.returns-then-b-lt65
returns-then-b-lt65 c = digit_figure c.args.b c.requires c.if-b-lt65.true

pub returns-else-b-lt65 : goal.returns-else-b-lt65
returns-else-b-lt65 c = digit_letter c.args.b c.requires c.if-b-lt65.false
