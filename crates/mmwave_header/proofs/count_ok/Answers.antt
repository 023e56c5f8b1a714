-- One test after another, as the definition has them.
use Rattle.mmwave.proofs.RuleLaws.{count_many, count_tight, count_some, count_none}
use Rattle.mmwave_header.proofs.count_ok.Goals as goal

pub returns-then-k-gt-MOST_RECORDS : goal.returns-then-k-gt-MOST_RECORDS
returns-then-k-gt-MOST_RECORDS c = count_many _ _ _ c.if-k-gt-MOST_RECORDS.true

pub returns-then-l-k : goal.returns-then-l-k
returns-then-l-k c = count_tight _ _ _ c.if-k-gt-MOST_RECORDS.false c.if-l-k.true

pub returns-then-k-gt0 : goal.returns-then-k-gt0
returns-then-k-gt0 c = count_some _ _ _ c.if-k-gt-MOST_RECORDS.false c.if-l-k.false c.if-k-gt0.true

pub returns : goal.returns
returns c = count_none _ _ _ c.if-k-gt-MOST_RECORDS.false c.if-l-k.false c.if-k-gt0.false c.padding_of.ensures
