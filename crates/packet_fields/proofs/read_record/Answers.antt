-- `packet_fields::read_record` meets its contract: 6, or the record that the walk comes to.
use Rattle.std.proofs.Common.{refl}
use Rattle.packet.proofs.FieldLaws.{record_over, record_there, record_walks, record_small}
use Rattle.packet_fields.proofs.read_record.Goals as goal

pub returns-then-records-index : goal.returns-then-records-index
returns-then-records-index c = record_over _ _ c.word_at-records.ensures c.if-records-index.true refl

pub place-p-requires : goal.place-p-requires
place-p-requires c = record_walks _ _ c.requires c.word_at-records.ensures c.if-records-index.false

pub record_from-requires : goal.record_from-requires
record_from-requires c = record_small _ _ c.requires c.word_at-records.ensures c.if-records-index.false c.place-p.ensures

pub returns : goal.returns
returns c = record_there _ _ c.word_at-records.ensures c.if-records-index.false c.place-p.ensures c.record_from.ensures
