-- One arm for each dialect.
use Rattle.mmwave.proofs.RuleLaws.{rule_mmwave, rule_vital}
use borrow.Author.Rules.{rules}
use Rattle.mmwave_rules.proofs.rule_of.Goals as goal

pub enum_told-1 : goal.enum_told-1
enum_told-1 c = search rules

pub returns-in-MmWave : goal.returns-in-MmWave
returns-in-MmWave c = rule_mmwave c.in-MmWave.is _ _ c.mmwave_rule.ensures

pub returns-in-VitalSigns : goal.returns-in-VitalSigns
returns-in-VitalSigns c = rule_vital c.in-VitalSigns.is _ _ c.vital_rule.ensures
