-- `units::accuracy_to_millimetres` meets its contract: the millimetres are few.
use Rattle.std.proofs.Common.{arith}
use Rattle.units.proofs.Machine.{accuracy_small}
use Rattle.units.proofs.accuracy_to_millimetres.Goals as goal

pub overflow_cast-result : goal.overflow_cast-result
overflow_cast-result c = record { fits = accuracy_small _ _ _ (omega arith) c.rounded-whole.ensures }
