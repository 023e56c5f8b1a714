-- `packet_fields::starts` meets its contract: each call goes one record on, with one less to go.
use Rattle.std.proofs.Common.{arith}
use Rattle.packet.proofs.WalkLaws.{walk_starts, walk_next, none_starts, one_starts, later_starts}
use Rattle.packet_fields.proofs.+starts.Goals as goal

pub returns-then-k-eq0 : goal.returns-then-k-eq0
returns-then-k-eq0 t c = none_starts _ _ _ _ c.if-k-eq0.true

pub returns-then-p-at : goal.returns-then-p-at
returns-then-p-at t c = one_starts _ _ _ _ c.if-k-eq0.false c.if-p-at.true

pub behind-next-requires : goal.behind-next-requires
behind-next-requires t c = walk_starts _ _ _ c.requires

pub starts-requires : goal.starts-requires
starts-requires t c =
    (omega (arith, c.decreases, c.if-k-eq0.false), walk_next _ _ _ c.if-k-eq0.false c.behind-next.ensures c.requires)

pub returns : goal.returns
returns t c = later_starts _ _ _ _ c.if-k-eq0.false c.if-p-at.false c.behind-next.ensures c.starts.ensures
