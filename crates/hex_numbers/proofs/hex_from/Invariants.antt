-- The digits that are left, with the number so far in front of them, give the whole number; i digits give a number below 16 ^ i.
use Rattle.std.proofs.Common.{◌≡◌, ◌+◌, ◌-◌, ◌^◌, ◌<◌, take, drop}
use Rattle.digits.specs.Hex.{hex_from, hex_at}
use Rattle.hex_numbers.proofs.hex_from.Given as goal

abbrev pub invariant-loop-i : goal.invariant-loop-i
invariant-loop-i l = (l.v < 16 ^ l.i) × (hex_from l.v (take (l.n - l.i) (drop (l.at + l.i) l.s)) ≡ hex_at l.n l.at l.s)
