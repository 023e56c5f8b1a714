-- One arm for each known type; the last one has passed all tests.
use Rattle.mmwave.specs.MmWave.{once_bit, once_mark}
use Rattle.mmwave.proofs.RuleLaws.{mark_type, mark_other}
use borrow.Author.Rules.{rules}
use Rattle.mmwave_rules.proofs.mmwave_mark.Goals as goal

pub returns-in-1 : goal.returns-in-1
unfolding once_mark once_bit
returns-in-1 c = mark_type c.in-1.is

pub returns-in-2 : goal.returns-in-2
unfolding once_mark once_bit
returns-in-2 c = mark_type c.in-2.is

pub returns-in-3 : goal.returns-in-3
unfolding once_mark once_bit
returns-in-3 c = mark_type c.in-3.is

pub returns-in-4 : goal.returns-in-4
unfolding once_mark once_bit
returns-in-4 c = mark_type c.in-4.is

pub returns-in-5 : goal.returns-in-5
unfolding once_mark once_bit
returns-in-5 c = mark_type c.in-5.is

pub returns-in-6 : goal.returns-in-6
unfolding once_mark once_bit
returns-in-6 c = mark_type c.in-6.is

pub returns-in-7 : goal.returns-in-7
unfolding once_mark once_bit
returns-in-7 c = mark_type c.in-7.is

pub returns-in-8 : goal.returns-in-8
unfolding once_mark once_bit
returns-in-8 c = mark_type c.in-8.is

pub returns-in-9 : goal.returns-in-9
unfolding once_mark once_bit
returns-in-9 c = mark_type c.in-9.is

pub returns-in_default : goal.returns-in_default
returns-in_default c = search (rules, mark_other)
