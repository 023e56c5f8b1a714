-- The rule of the type, and one test.
use Rattle.mmwave.proofs.RecordLaws.{type_test}
use Rattle.mmwave.proofs.RuleLaws.{reason_length, reason_type}
use Rattle.mmwave_inside.proofs.refusal_of.Goals as goal

pub returns-then-type_ok : goal.returns-then-type_ok
returns-then-type_ok c = reason_length (type_test _ _ _ _ _ c.rule_of.ensures c.type_ok.ensures) c.if-type_ok.true

pub returns : goal.returns
returns c = reason_type (type_test _ _ _ _ _ c.rule_of.ensures c.type_ok.ensures) c.if-type_ok.false
