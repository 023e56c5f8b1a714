-- A turn that is tried again wrote no byte.
use Rattle.std.specs.Io.KnownBytes.{Keeps}
use Rattle.listing_io.proofs.write_part.Given as goal

abbrev pub invariant-loop : goal.invariant-loop
invariant-loop g l = Keeps (g.W.Write.contents l.fn.writer) (g.W.Write.contents l.writer)
