-- One test after another, as the definition has them.
use Rattle.mmwave.proofs.RuleLaws.{mmwave_ragged, mmwave_short, mmwave_long}
use Rattle.mmwave_header.proofs.mmwave_total.Goals as goal

pub returns-then-l-ne0 : goal.returns-then-l-ne0
returns-then-l-ne0 c = mmwave_ragged _ c.if-l-ne0.true

pub returns-then-l-lt64 : goal.returns-then-l-lt64
returns-then-l-lt64 c = mmwave_short _ c.if-l-ne0.false c.if-l-lt64.true

pub returns : goal.returns
returns c = mmwave_long _ c.if-l-ne0.false c.if-l-lt64.false
