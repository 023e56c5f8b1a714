-- One test after another, as the definition has them.
use Rattle.mmwave.proofs.RuleLaws.{multiple_more, multiple_last}
use Rattle.mmwave_lengths.proofs.some_multiple_fits.Goals as goal

pub returns-then-k-gt1 : goal.returns-then-k-gt1
returns-then-k-gt1 c = multiple_more _ _ _ _ c.if-k-gt1.true

pub returns : goal.returns
returns c = multiple_last _ _ _ _ c.if-k-gt1.false c.beyond.ensures c.padding_of.ensures
