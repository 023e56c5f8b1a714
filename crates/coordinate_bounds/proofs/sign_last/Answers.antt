-- `coordinate_bounds::sign_last` meets its contract: of 32 bits the first is the sign.
use native.Mathlib.Omega.{arith}
use Rattle.coordinate_bounds.proofs.BoundLaws.{turned_left}
use Rattle.coordinate_bounds.proofs.sign_last.Goals as goal

pub returns : goal.returns
returns c = turned_left _ (omega arith)
