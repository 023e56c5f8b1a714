-- Storing the words that are left gives what storing all of them gave.
use Rattle.std.proofs.Common.{◌≤◌, length, take, length-take, arith}
use Rattle.demorad.proofs.WritingLaws.{put_turns, put_ends}
use Rattle.demorad_write.proofs.put_payload.Goals as goal

pub loop-i-preserved : goal.loop-i-preserved
loop-i-preserved c =
    let l = c.loop-i in
    let few : length (take c.args.n c.args.words) ≤ c.args.n = simp length-take (omega arith) in
    put_turns l.i (take c.args.n c.args.words) l.out _ _ (omega arith) (omega (arith, few)) c.put_word.ensures l.invariant

pub returns : goal.returns
returns c =
    let l = c.loop-i in
    put_ends l.i _ (take c.args.n c.args.words) l.out _ (omega arith) l.invariant
