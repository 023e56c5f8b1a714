use Rattle.std.proofs.Common.{◌≡◌, ◌+◌, ◌-◌, ◌*◌, drop}
use lib.Seq.{sets}
use Rattle.demorad.specs.Reading.{words_of, padded}
use Rattle.demorad_read.proofs.payload.Given as goal

abbrev pub invariant-loop-i : goal.invariant-loop-i
invariant-loop-i l =
    sets l.words l.i (words_of (l.count - l.i) (drop (4 + 4 * l.i) l.bytes)) ≡ padded (words_of l.count (drop 4 l.bytes))
