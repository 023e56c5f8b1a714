-- `packet_fields::peek` meets its contract: 5, or what is read of a packet of the kind.
use Rattle.packet.proofs.FieldLaws.{other_named, not_whole, other_kind, other_length, one_packet, walks, step_refused, step_read_lem}
use Rattle.packet_fields.proofs.peek.Goals as goal

pub returns-in_default : goal.returns-in_default
returns-in_default c = step_refused _ _ _ (other_named _ _ c.dialect_named.ensures c.in_default.is)

pub returns-in_default-judge : goal.returns-in_default-judge
returns-in_default-judge c =
    step_refused _ _ _ (not_whole _ _ c.dialect_named.ensures c.in-Some.is c.judge.ensures.answers c.in_default-judge.not-Whole)

pub returns-then-found-kind : goal.returns-then-found-kind
returns-then-found-kind c =
    step_refused _ _ _
    (other_kind _ _ c.dialect_named.ensures c.in-Some.is c.judge.ensures.answers c.in-Whole.is c.if-found-kind.true)

pub returns-then-length-packet : goal.returns-then-length-packet
returns-then-length-packet c =
    step_refused _ _ _ (other_length _ _ c.dialect_named.ensures c.in-Some.is c.judge.ensures.answers c.in-Whole.is
    c.if-found-kind.false c.if-length-packet.true)

pub read_step-requires : goal.read_step-requires
read_step-requires c =
    walks _ _ (one_packet _ _ c.dialect_named.ensures c.in-Some.is c.judge.ensures.answers c.in-Whole.is
    c.if-found-kind.false c.if-length-packet.false)

pub returns : goal.returns
returns c =
    step_read_lem _ _ _ (one_packet _ _ c.dialect_named.ensures c.in-Some.is c.judge.ensures.answers c.in-Whole.is
    c.if-found-kind.false c.if-length-packet.false) c.read_step.ensures
