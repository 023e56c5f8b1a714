-- A multiple of 4, and then one arm for each dialect.
use Rattle.mmwave.proofs.RuleLaws.{total_ragged, total_mmwave, total_vital}
use borrow.Author.Rules.{rules}
use Rattle.mmwave_header.proofs.total_ok.Goals as goal

pub returns-then-l-ne0 : goal.returns-then-l-ne0
returns-then-l-ne0 c = total_ragged _ _ c.if-l-ne0.true

pub enum_told-1 : goal.enum_told-1
enum_told-1 c = search rules

pub returns-in-MmWave : goal.returns-in-MmWave
returns-in-MmWave c = total_mmwave c.in-MmWave.is _ c.mmwave_total.ensures

pub returns-in-VitalSigns : goal.returns-in-VitalSigns
returns-in-VitalSigns c = total_vital c.in-VitalSigns.is _ c.vital_total.ensures
