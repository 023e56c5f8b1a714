-- The size, the run of reserved bytes and data, the stop marker.
use Rattle.std.proofs.Common.{refl}
use Rattle.form.proofs.PieceLaws.{all_left, left_by, left_ok, left_err, left_is}
use Rattle.sirad.specs.Rows.{data_pieces}
use Rattle.sirad.specs.Sirad.{row}
use Rattle.sirad.proofs.FrameLaws.{data_form}
use Rattle.sirad_judge.proofs.data_frame.Goals as goal

pub returns-in_err-size : goal.returns-in_err-size
returns-in_err-size c =
    left_err (λ n. row (data_pieces n) c.args.kind) c.in_err-size.field-0.0 c.from_residual.result (all_left refl)
    c.in_err-size.ensures c.from_residual.ensures.1

pub returns-in_err-data : goal.returns-in_err-data
returns-in_err-data c =
    let behind_size = left_ok (λ n. row (data_pieces n) c.args.kind) (all_left refl) c.in_ok-size.ensures in
    left_err _ c.in_err-data.field-0.0 c.from_residual-in_err-data.result (left_by (data_form _ _) behind_size)
    c.in_err-data.ensures c.from_residual-in_err-data.ensures.1

pub returns : goal.returns
returns c =
    let behind_size = left_ok (λ n. row (data_pieces n) c.args.kind) (all_left refl) c.in_ok-size.ensures in
    left_is (left_ok _ (left_by (data_form _ _) behind_size) c.in_ok-data.ensures) c.stop.ensures
