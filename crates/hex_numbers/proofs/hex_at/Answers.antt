-- Each return is one law: no byte is there; those that are there.
use Rattle.std.proofs.Common.{min, sym, ◌∙◌, arith}
use Rattle.digits.proofs.HexSteps.{hex_missing, hex_there}
use Rattle.hex_numbers.proofs.hex_at.Goals as goal

pub returns-then-s-at : goal.returns-then-s-at
returns-then-s-at c = let a = c.args in sym (hex_missing (min a.n 8) a.at a.s.now (omega arith))

pub returns : goal.returns
returns c = let a = c.args in c.hex_from.ensures ∙ rw (c.min-count.ensures, c.min.ensures) (hex_there (min a.n 8) a.at a.s.now)
