-- `packet_fields::record` meets its contract: 5, or what is read of a packet of the kind.
use Rattle.packet.proofs.FieldLaws.{other_named, not_whole, other_kind, other_length, one_packet, walks, record_refused, record_read_lem}
use Rattle.packet_fields.proofs.record.Goals as goal

pub returns-in_default : goal.returns-in_default
returns-in_default c = record_refused _ _ _ (other_named _ _ c.dialect_named.ensures c.in_default.is)

pub returns-in_default-judge : goal.returns-in_default-judge
returns-in_default-judge c =
    record_refused _ _ _ (not_whole _ _ c.dialect_named.ensures c.in-Some.is c.judge.ensures.answers c.in_default-judge.not-Whole)

pub returns-then-found-kind : goal.returns-then-found-kind
returns-then-found-kind c =
    record_refused _ _ _
    (other_kind _ _ c.dialect_named.ensures c.in-Some.is c.judge.ensures.answers c.in-Whole.is c.if-found-kind.true)

pub returns-then-length-packet : goal.returns-then-length-packet
returns-then-length-packet c =
    record_refused _ _ _ (other_length _ _ c.dialect_named.ensures c.in-Some.is c.judge.ensures.answers c.in-Whole.is
    c.if-found-kind.false c.if-length-packet.true)

pub read_record-requires : goal.read_record-requires
read_record-requires c =
    walks _ _ (one_packet _ _ c.dialect_named.ensures c.in-Some.is c.judge.ensures.answers c.in-Whole.is
    c.if-found-kind.false c.if-length-packet.false)

pub returns : goal.returns
returns c =
    record_read_lem _ _ _ (one_packet _ _ c.dialect_named.ensures c.in-Some.is c.judge.ensures.answers c.in-Whole.is
    c.if-found-kind.false c.if-length-packet.false) c.read_record.ensures
