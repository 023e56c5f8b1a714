-- The four runs of a target, one after the other.
use Rattle.form.proofs.PieceLaws.{all_left, left_ok, left_err, left_is}
use Rattle.sirad.proofs.FrameLaws.{target_form}
use Rattle.sirad_bytewise.proofs.target_slowly.Goals as goal

pub returns-in_err-number_and_distance : goal.returns-in_err-number_and_distance
returns-in_err-number_and_distance c =
    left_err _ c.in_err-number_and_distance.field-0.0 c.from_residual.result (all_left target_form)
    c.in_err-number_and_distance.ensures c.from_residual.ensures.1

pub returns-in_err-magnitude : goal.returns-in_err-magnitude
returns-in_err-magnitude c =
    let behind_distance = left_ok _ (all_left target_form) c.in_ok-number_and_distance.ensures in
    left_err _ c.in_err-magnitude.field-0.0 c.from_residual-in_err-magnitude.result behind_distance
    c.in_err-magnitude.ensures c.from_residual-in_err-magnitude.ensures.1

pub returns-in_err-phase : goal.returns-in_err-phase
returns-in_err-phase c =
    let behind_distance = left_ok _ (all_left target_form) c.in_ok-number_and_distance.ensures in
    let behind_magnitude = left_ok _ behind_distance c.in_ok-magnitude.ensures in
    left_err _ c.in_err-phase.field-0.0 c.from_residual-in_err-phase.result behind_magnitude
    c.in_err-phase.ensures c.from_residual-in_err-phase.ensures.1

pub returns : goal.returns
returns c =
    let behind_distance = left_ok _ (all_left target_form) c.in_ok-number_and_distance.ensures in
    let behind_magnitude = left_ok _ behind_distance c.in_ok-magnitude.ensures in
    left_is (left_ok _ behind_magnitude c.in_ok-phase.ensures) c.span-4.ensures
