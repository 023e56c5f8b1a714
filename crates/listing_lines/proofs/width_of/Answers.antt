-- `listing_lines::width_of` meets its contract: the tests of the code are those of the definition.
use Rattle.std.proofs.Common.{rules, le-ltb, lt-ltb}
use Rattle.listing.specs.Decimal.{width}
use Rattle.listing_lines.proofs.width_of.Goals as goal

pub returns-then-v-lt10 : goal.returns-then-v-lt10
unfolding width
returns-then-v-lt10 c = search (rules, lt-ltb, le-ltb)

pub returns-then-v-lt100 : goal.returns-then-v-lt100
unfolding width
returns-then-v-lt100 c = search (rules, lt-ltb, le-ltb)

pub returns-then-v-lt1000 : goal.returns-then-v-lt1000
unfolding width
returns-then-v-lt1000 c = search (rules, lt-ltb, le-ltb)

pub returns-then-v-lt10000 : goal.returns-then-v-lt10000
unfolding width
returns-then-v-lt10000 c = search (rules, lt-ltb, le-ltb)

pub returns-then-v-lt100000 : goal.returns-then-v-lt100000
unfolding width
returns-then-v-lt100000 c = search (rules, lt-ltb, le-ltb)

pub returns-then-v-lt1000000 : goal.returns-then-v-lt1000000
unfolding width
returns-then-v-lt1000000 c = search (rules, lt-ltb, le-ltb)

pub returns-then-v-lt10000000 : goal.returns-then-v-lt10000000
unfolding width
returns-then-v-lt10000000 c = search (rules, lt-ltb, le-ltb)

pub returns-then-v-lt100000000 : goal.returns-then-v-lt100000000
unfolding width
returns-then-v-lt100000000 c = search (rules, lt-ltb, le-ltb)

pub returns-then-v-lt1000000000 : goal.returns-then-v-lt1000000000
unfolding width
returns-then-v-lt1000000000 c = search (rules, lt-ltb, le-ltb)

pub returns : goal.returns
unfolding width
returns c = search (rules, lt-ltb, le-ltb)
