-- `listing_table::letter_of` meets its contract. One arm for each kind; behind them none matches.
use Rattle.std.proofs.Common.{rules, ne_eqb}
use Rattle.listing_table.proofs.letter_of.Goals as goal

pub returns-in-1 : goal.returns-in-1
returns-in-1 c = rw c.in-1.is

pub returns-in-2 : goal.returns-in-2
returns-in-2 c = rw c.in-2.is

pub returns-in-3 : goal.returns-in-3
returns-in-3 c = rw c.in-3.is

pub returns-in-4 : goal.returns-in-4
returns-in-4 c = rw c.in-4.is

pub returns-in-5 : goal.returns-in-5
returns-in-5 c = rw c.in-5.is

pub returns-in-6 : goal.returns-in-6
returns-in-6 c = rw c.in-6.is

pub returns-in-16 : goal.returns-in-16
returns-in-16 c = rw c.in-16.is

pub returns-in_default : goal.returns-in_default
returns-in_default c = search (rules, ne_eqb)
