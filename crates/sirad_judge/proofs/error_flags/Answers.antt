-- The digits, the stop marker.
use Rattle.form.proofs.PieceLaws.{all_left, left_ok, left_err, left_is}
use Rattle.sirad.proofs.FrameLaws.{error_form}
use Rattle.sirad_judge.proofs.error_flags.Goals as goal

pub returns-in_err-flags : goal.returns-in_err-flags
returns-in_err-flags c =
    left_err _ c.in_err-flags.field-0.0 c.from_residual.result (all_left error_form)
    c.in_err-flags.ensures c.from_residual.ensures.1

pub returns : goal.returns
returns c =
    left_is (left_ok _ (all_left error_form) c.in_ok-flags.ensures) c.stop.ensures
