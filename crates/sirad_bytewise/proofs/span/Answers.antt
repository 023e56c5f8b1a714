-- What is left of the run is judged as the whole run is.
use Rattle.form.proofs.PieceLaws.{left_by, left_ok, left_err, left_none}
use Rattle.sirad.proofs.Runs.{run_next, run_over}
use Rattle.sirad_bytewise.proofs.span.Goals as goal

pub returns-in_err-at : goal.returns-in_err-at
returns-in_err-at g c =
    left_err _ c.in_err-at.field-0.0 c.from_residual.result (left_by (run_next _ _ _ c.loop-test.true) c.loop.invariant)
    c.in_err-at.ensures c.from_residual.ensures.1

pub loop-preserved : goal.loop-preserved
loop-preserved g c =
    left_ok _ (left_by (run_next _ _ _ c.loop-test.true) c.loop.invariant) c.in_ok-at.ensures

pub returns : goal.returns
returns g c = left_none (left_by (run_over _ _ _ c.loop-test.false) c.loop.invariant)
