-- What was gathered so far is some input; each turn gathers a byte at least.
use Rattle.std.proofs.Common.{◌≡◌, ◌-◌, ◌≤◌, length}
use Rattle.listing.proofs.GatherLaws.{Gathered}
use Rattle.listing_gather.proofs.KnownLaws.{Front}
use Rattle.listing_gather.proofs.gather.Given as goal

abbrev pub invariant-loop-size : goal.invariant-loop-size
invariant-loop-size g l =
    (l.size ≤ length l.fn.buffer)
    × (length l.buffer ≡ length l.fn.buffer)
    × (length l.block ≡ length l.fn.block)
    × Gathered l.fn.buffer l.size l.buffer
    × Front (g.R.Read.remaining l.fn.reader) (g.R.Read.remaining l.reader) l.size l.buffer

abbrev pub decreases-loop-size : goal.decreases-loop-size
decreases-loop-size g l = length l.fn.buffer - l.size
