-- Format and gain, the digits, the stop marker.
use Rattle.form.proofs.PieceLaws.{all_left, left_ok, left_err, left_is}
use Rattle.sirad.proofs.FrameLaws.{status_form}
use Rattle.sirad_judge.proofs.status_update.Goals as goal

pub returns-in_err-head : goal.returns-in_err-head
returns-in_err-head c =
    left_err _ c.in_err-head.field-0.0 c.from_residual.result (all_left status_form)
    c.in_err-head.ensures c.from_residual.ensures.1

pub returns-in_err-fields : goal.returns-in_err-fields
returns-in_err-fields c =
    let behind_head = left_ok _ (all_left status_form) c.in_ok-head.ensures in
    left_err _ c.in_err-fields.field-0.0 c.from_residual-in_err-fields.result behind_head
    c.in_err-fields.ensures c.from_residual-in_err-fields.ensures.1

pub returns : goal.returns
returns c =
    let behind_head = left_ok _ (all_left status_form) c.in_ok-head.ensures in
    left_is (left_ok _ behind_head c.in_ok-fields.ensures) c.stop.ensures
