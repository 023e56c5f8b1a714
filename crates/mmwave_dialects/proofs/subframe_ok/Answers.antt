-- One arm for each dialect.
use Rattle.mmwave.proofs.RuleLaws.{subframe_mmwave, subframe_vital}
use borrow.Author.Rules.{rules}
use Rattle.mmwave_dialects.proofs.subframe_ok.Goals as goal

pub enum_told-1 : goal.enum_told-1
enum_told-1 c = search rules

pub returns-in-MmWave : goal.returns-in-MmWave
returns-in-MmWave c = subframe_mmwave c.in-MmWave.is _

pub returns-in-VitalSigns : goal.returns-in-VitalSigns
returns-in-VitalSigns c = subframe_vital c.in-VitalSigns.is _
