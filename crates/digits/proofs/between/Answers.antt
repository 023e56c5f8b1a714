-- Both tests decide the Bool.
use borrow.Author.Tests.{le-leb, lt-leb}
use borrow.Author.Rules.{rules}
use Rattle.digits.proofs.between.Goals as goal

pub returns-then-low-b : goal.returns-then-low-b
returns-then-low-b c = search (rules, le-leb, lt-leb)

pub returns-else-low-b : goal.returns-else-low-b
returns-else-low-b c = search (rules, le-leb, lt-leb)
