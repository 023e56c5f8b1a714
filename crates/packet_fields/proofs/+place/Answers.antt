-- `packet_fields::place` meets its contract: each call goes one record on, with one less to go.
use Rattle.std.proofs.Common.{arith}
use Rattle.packet.proofs.WalkLaws.{walk_starts, record_here, record_next, to_next}
use Rattle.packet_fields.proofs.+place.Goals as goal

pub returns-then-j-eq0 : goal.returns-then-j-eq0
returns-then-j-eq0 t c = record_here _ _ _ c.if-j-eq0.true

pub behind-next-requires : goal.behind-next-requires
behind-next-requires t c = walk_starts _ _ _ c.requires

pub place-requires : goal.place-requires
place-requires t c =
    (omega (arith, c.decreases, c.if-j-eq0.false), to_next _ _ _ c.if-j-eq0.false c.behind-next.ensures c.requires)

pub returns : goal.returns
returns t c = record_next _ _ _ c.if-j-eq0.false c.behind-next.ensures c.place.ensures
