-- One test after another, as the definition has them.
use Rattle.mmwave.proofs.RuleLaws.{vital_ragged, vital_half, vital_short, vital_long}
use Rattle.mmwave_header.proofs.vital_total.Goals as goal

pub returns-then-l-ne0 : goal.returns-then-l-ne0
returns-then-l-ne0 c = vital_ragged _ c.if-l-ne0.true

pub returns-then-l-eq44 : goal.returns-then-l-eq44
returns-then-l-eq44 c = vital_half _ c.if-l-ne0.false c.if-l-eq44.true

pub returns-then-l-lt40 : goal.returns-then-l-lt40
returns-then-l-lt40 c = vital_short _ c.if-l-ne0.false c.if-l-eq44.false c.if-l-lt40.true

pub returns : goal.returns
returns c = vital_long _ c.if-l-ne0.false c.if-l-eq44.false c.if-l-lt40.false
