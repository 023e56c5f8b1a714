-- One arm for each known type; the last one has passed all tests.
use mathlib.Core.Path.{◌∙◌}
use borrow.Author.Tests.{eq-eqb, ne_eqb}
use Rattle.mmwave.specs.MmWave.{payload_rule}
use Rattle.mmwave.proofs.RuleLaws.{rule_type}
use borrow.Author.Rules.{rules}
use Rattle.mmwave_rules.proofs.mmwave_rule.Goals as goal

pub returns-in-1 : goal.returns-in-1
unfolding payload_rule
returns-in-1 c = c.per_object.ensures ∙ rule_type _ c.in-1.is

pub returns-in-2 : goal.returns-in-2
unfolding payload_rule
returns-in-2 c = rule_type _ c.in-2.is

pub returns-in-3 : goal.returns-in-3
unfolding payload_rule
returns-in-3 c = rule_type _ c.in-3.is

pub returns-in-4 : goal.returns-in-4
unfolding payload_rule
returns-in-4 c = rule_type _ c.in-4.is

pub returns-in-5 : goal.returns-in-5
unfolding payload_rule
returns-in-5 c = rule_type _ c.in-5.is

pub returns-in-6 : goal.returns-in-6
unfolding payload_rule
returns-in-6 c = rule_type _ c.in-6.is

pub returns-in-7 : goal.returns-in-7
unfolding payload_rule
returns-in-7 c = c.per_object-in-7.ensures ∙ rule_type _ c.in-7.is

pub returns-in-8 : goal.returns-in-8
unfolding payload_rule
returns-in-8 c = rule_type _ c.in-8.is

pub returns-in-9 : goal.returns-in-9
unfolding payload_rule
returns-in-9 c = rule_type _ c.in-9.is

pub returns-in_default : goal.returns-in_default
unfolding payload_rule
returns-in_default c = search (rules, eq-eqb, ne_eqb)
