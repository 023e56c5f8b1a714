-- One arm for each dialect.
use Rattle.mmwave.proofs.RuleLaws.{mark_mmwave, mark_vital}
use borrow.Author.Rules.{rules}
use Rattle.mmwave_rules.proofs.mark_of.Goals as goal

pub enum_told-1 : goal.enum_told-1
enum_told-1 c = search rules

pub returns-in-MmWave : goal.returns-in-MmWave
returns-in-MmWave c = mark_mmwave c.in-MmWave.is _ c.mmwave_mark.ensures

pub returns-in-VitalSigns : goal.returns-in-VitalSigns
returns-in-VitalSigns c = mark_vital c.in-VitalSigns.is _
