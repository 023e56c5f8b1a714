-- The words stored so far, and the words that are left stored behind them, are the padded payload.
use Rattle.std.proofs.Common.{drop, arith}
use Rattle.demorad.proofs.ReadingLaws.{payload_starts, payload_turns, payload_ends}
use Rattle.demorad_read.proofs.payload.Goals as goal

pub loop-i-init : goal.loop-i-init
loop-i-init c = let a = c.args in payload_starts a.count (drop 4 a.bytes.now) (omega arith)

pub loop-i-preserved : goal.loop-i-preserved
loop-i-preserved c =
    let a = c.args in
    let l = c.loop-i in
    payload_turns a.count l.i _ a.bytes.now l.words _ (omega arith) (omega arith) c.word_at.ensures l.invariant

pub returns : goal.returns
returns c =
    let a = c.args in
    let l = c.loop-i in
    payload_ends a.count l.i _ a.bytes.now l.words _ (omega arith) l.invariant
