-- `packet_find::first_of` meets its contract: each call goes one record on, with one less to go.
use Rattle.std.proofs.Common.{arith}
use Rattle.packet.proofs.WalkLaws.{ends_at, none_of_type, none_beyond, type_here, type_later}
use Rattle.packet_find.proofs.+first_of.Goals as goal

pub returns-then-k-eq0 : goal.returns-then-k-eq0
returns-then-k-eq0 t c = none_of_type _ _ _ _ c.if-k-eq0.true

pub returns-then-s-p : goal.returns-then-s-p
returns-then-s-p t c = none_beyond 1 _ _ _ (λ e. omega arith) c.if-s-p.true

pub returns-then-word_at-eq-POINTS : goal.returns-then-word_at-eq-POINTS
returns-then-word_at-eq-POINTS t c = type_here 1 _ _ _ c.if-k-eq0.false c.word_at.ensures c.if-word_at-eq-POINTS.true

pub returns : goal.returns
returns t c =
    type_later 1 _ _ _ c.if-k-eq0.false c.word_at.ensures c.if-word_at-eq-POINTS.false
    (ends_at _ _ c.payload_length.ensures) c.first_of.ensures
