use Rattle.std.proofs.Common.{◌≡◌, take}
use Rattle.std.specs.List.{list_all}
use Rattle.sirad.specs.Classes.{accepts}
use Rattle.sirad_pieces.proofs.all_of.Given as goal

abbrev pub invariant-loop-b : goal.invariant-loop-b
invariant-loop-b g l = l.all ≡ list_all (accepts g.C.ByteClass.class) (take l.b-index l.bytes)
