-- A digit, then a character.
use Rattle.form.proofs.PieceLaws.{all_left, left_ok, left_err, left_none}
use Rattle.sirad.proofs.FrameLaws.{head_form}
use Rattle.sirad_judge.proofs.head_at.Goals as goal

pub returns-in_err-format : goal.returns-in_err-format
returns-in_err-format c =
    left_err _ c.in_err-format.field-0.0 c.from_residual.result (all_left head_form)
    c.in_err-format.ensures c.from_residual.ensures.1

pub returns-in_err-gain : goal.returns-in_err-gain
returns-in_err-gain c =
    let behind_format = left_ok _ (all_left head_form) c.in_ok-format.ensures in
    left_err _ c.in_err-gain.field-0.0 c.from_residual-in_err-gain.result behind_format
    c.in_err-gain.ensures c.from_residual-in_err-gain.ensures.1

pub returns : goal.returns
returns c =
    let behind_format = left_ok _ (all_left head_form) c.in_ok-format.ensures in
    left_none (left_ok _ behind_format c.in_ok-gain.ensures)
