-- Format and gain, the blocks, the stop marker.
use Rattle.form.proofs.PieceLaws.{all_left, left_ok, left_err, left_is}
use Rattle.sirad.proofs.FrameLaws.{targets_form}
use Rattle.sirad_judge.proofs.target_list.Goals as goal

pub returns-in_err-head : goal.returns-in_err-head
returns-in_err-head c =
    left_err _ c.in_err-head.field-0.0 c.from_residual.result (all_left targets_form)
    c.in_err-head.ensures c.from_residual.ensures.1

pub returns : goal.returns
returns c =
    left_is (left_ok _ (all_left targets_form) c.in_ok-head.ensures) c.blocks_from.ensures
