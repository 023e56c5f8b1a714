-- `capture_refusal::check_reading` meets its contract. One law for each answer.
use Rattle.std.proofs.Common.{arith}
use Rattle.capture.proofs.FeedLaws.{refuses_none, counted_within, refuses_61, refuses_60, refuses_0}
use Rattle.capture_refusal.proofs.check_reading.Goals as goal

pub returns-then-is_sure : goal.returns-then-is_sure
returns-then-is_sure c = refuses_none _ _ _ _ _ _ (rw c.longest_of.ensures at (c.is_sure.ensures c.if-is_sure.true))

pub returns-then-room-counted : goal.returns-then-room-counted
returns-then-room-counted c =
    let a = c.args in
    refuses_61 a.d a.waiting.now a.bytes.now a.offset a.carry a.table.now c.requires
    c.read_both-counted.ensures c.if-room-counted.true

pub overflow_sub-counted : goal.overflow_sub-counted
overflow_sub-counted c =
    let a = c.args in
    (counted_within a.d a.waiting.now a.bytes.now a.offset a.carry a.table.now c.requires c.read_both-counted.ensures).0

pub overflow_sub-n : goal.overflow_sub-n
overflow_sub-n c =
    let a = c.args in
    omega (arith, counted_within a.d a.waiting.now a.bytes.now a.offset a.carry a.table.now c.requires c.read_both-counted.ensures)

pub returns-then-carry-n : goal.returns-then-carry-n
returns-then-carry-n c =
    let a = c.args in
    refuses_60 a.d a.waiting.now a.bytes.now a.offset a.carry a.table.now c.requires
    c.read_both-counted.ensures (omega arith) c.if-carry-n.true

pub returns : goal.returns
returns c =
    let a = c.args in
    refuses_0 a.d a.waiting.now a.bytes.now a.offset a.carry a.table.now c.requires
    c.read_both-counted.ensures (omega arith) c.if-carry-n.false
