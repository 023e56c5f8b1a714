-- `proximity_points::is_within` meets its contract.
use Rattle.proximity_points.proofs.is_within.Goals as goal

pub returns : goal.returns
returns c = rw c.sign_last.ensures
