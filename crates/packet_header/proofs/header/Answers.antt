-- `packet_header::header` meets its contract: 5, or the eight words.
use Rattle.packet.proofs.FieldLaws.{other_named, not_whole, other_kind, other_length, one_packet, header_refused, header_read}
use Rattle.packet_header.proofs.header.Goals as goal

pub returns-in_default : goal.returns-in_default
returns-in_default c = header_refused _ _ (other_named _ _ c.dialect_named.ensures c.in_default.is)

pub returns-in_default-judge : goal.returns-in_default-judge
returns-in_default-judge c =
    header_refused _ _ (not_whole _ _ c.dialect_named.ensures c.in-Some.is c.judge.ensures.answers c.in_default-judge.not-Whole)

pub returns-then-found-kind : goal.returns-then-found-kind
returns-then-found-kind c =
    header_refused _ _
    (other_kind _ _ c.dialect_named.ensures c.in-Some.is c.judge.ensures.answers c.in-Whole.is c.if-found-kind.true)

pub returns-then-length-packet : goal.returns-then-length-packet
returns-then-length-packet c =
    header_refused _ _ (other_length _ _ c.dialect_named.ensures c.in-Some.is c.judge.ensures.answers c.in-Whole.is
    c.if-found-kind.false c.if-length-packet.true)

pub returns : goal.returns
returns c =
    header_read _ _ (one_packet _ _ c.dialect_named.ensures c.in-Some.is c.judge.ensures.answers c.in-Whole.is
    c.if-found-kind.false c.if-length-packet.false) c.read_header.ensures
