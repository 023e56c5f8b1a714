-- `packet_cases::read_kind` is safe: the part of the first record ends within the slice.
use Rattle.std.proofs.Common.{arith}
use Rattle.packet.proofs.FieldLaws.{step_ends}
use Rattle.packet_cases.proofs.read_kind.Goals as goal

pub overflow_add-reader : goal.overflow_add-reader
overflow_add-reader g c = let ends = step_ends _ _ 40 c.in-Ok.ensures in omega arith
