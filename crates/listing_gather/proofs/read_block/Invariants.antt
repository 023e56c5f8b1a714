-- A turn that is tried again took no byte.
use Rattle.std.proofs.Common.{◌≡◌, length}
use Rattle.std.specs.Io.KnownBytes.{Keeps}
use Rattle.listing_gather.proofs.read_block.Given as goal

abbrev pub invariant-loop : goal.invariant-loop
invariant-loop g l = (length l.block ≡ length l.fn.block) × Keeps (g.R.Read.remaining l.fn.reader) (g.R.Read.remaining l.reader)
