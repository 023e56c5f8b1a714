-- `packet_fields::read_step` meets its contract: 6 where no record starts there, else the record there.
use Rattle.std.proofs.Common.{refl}
use Rattle.packet.proofs.FieldLaws.{step_nowhere, step_there, step_small}
use Rattle.packet_fields.proofs.read_step.Goals as goal

pub starts-requires : goal.starts-requires
starts-requires c = rw c.word_at-records.ensures c.requires

pub returns-then-not-starts : goal.returns-then-not-starts
returns-then-not-starts c = step_nowhere _ _ c.word_at-records.ensures c.starts.ensures c.if-not-starts.true refl

pub record_from-requires : goal.record_from-requires
record_from-requires c = step_small _ _ c.word_at-records.ensures c.starts.ensures c.requires c.if-not-starts.false

pub returns : goal.returns
returns c = step_there _ _ c.word_at-records.ensures c.starts.ensures c.if-not-starts.false c.record_from.ensures
