-- One arm for each type; the last one has passed all tests.
use mathlib.Core.Path.{sym, ap}
use borrow.Author.Tests.{eq-eqb, ne_eqb}
use borrow.Author.Rules.{rules}
use Rattle.mmwave.specs.VitalSigns.{vital_rule}
use Rattle.mmwave_rules.proofs.vital_rule.Goals as goal

pub returns-in-1 : goal.returns-in-1
unfolding vital_rule
returns-in-1 c = ap vital_rule (sym c.in-1.is)

pub returns-in-2 : goal.returns-in-2
unfolding vital_rule
returns-in-2 c = ap vital_rule (sym c.in-2.is)

pub returns-in-3 : goal.returns-in-3
unfolding vital_rule
returns-in-3 c = ap vital_rule (sym c.in-3.is)

pub returns-in-4 : goal.returns-in-4
unfolding vital_rule
returns-in-4 c = ap vital_rule (sym c.in-4.is)

pub returns-in_default : goal.returns-in_default
unfolding vital_rule
returns-in_default c = search (rules, eq-eqb, ne_eqb)
