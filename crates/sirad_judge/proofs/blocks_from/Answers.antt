-- What is left of the blocks is judged as all are.
use Rattle.form.proofs.PieceLaws.{left_by, left_ok, left_err, left_is}
use Rattle.sirad.proofs.FrameLaws.{blocks_next, blocks_over}
use Rattle.sirad_judge.proofs.blocks_from.Goals as goal

pub returns-in_err-at : goal.returns-in_err-at
returns-in_err-at c =
    left_err _ c.in_err-at.field-0.0 c.from_residual.result (left_by (blocks_next _ _ c.loop-test.true) c.loop.invariant)
    c.in_err-at.ensures c.from_residual.ensures.1

pub loop-preserved : goal.loop-preserved
loop-preserved c = left_ok _ (left_by (blocks_next _ _ c.loop-test.true) c.loop.invariant) c.in_ok-at.ensures

pub returns : goal.returns
returns c = left_is (left_by (blocks_over _ _ c.loop-test.false) c.loop.invariant) c.stop.ensures
