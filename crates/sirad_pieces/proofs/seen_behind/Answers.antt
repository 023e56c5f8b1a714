-- The four runs behind a target's number.
use Rattle.sirad.proofs.FrameLaws.{behind_seen}
use Rattle.sirad_pieces.proofs.seen_behind.Goals as goal

pub returns : goal.returns
returns c = λ y. behind_seen _ _ c.requires c.all_of.ensures c.all_of-2.ensures c.all_of-3.ensures c.all_of-4.ensures y
