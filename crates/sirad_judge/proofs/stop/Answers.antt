-- The two stop bytes, one after the other.
use Rattle.form.proofs.PieceLaws.{all_left, left_ok, left_err, left_none}
use Rattle.sirad.proofs.FrameLaws.{stop_form}
use Rattle.sirad_judge.proofs.stop.Goals as goal

pub returns-in_err-cr : goal.returns-in_err-cr
returns-in_err-cr c =
    left_err _ c.in_err-cr.field-0.0 c.from_residual.result (all_left (stop_form _))
    c.in_err-cr.ensures c.from_residual.ensures.1

pub returns-in_err-lf : goal.returns-in_err-lf
returns-in_err-lf c =
    let behind_cr = left_ok _ (all_left (stop_form _)) c.in_ok-cr.ensures in
    left_err _ c.in_err-lf.field-0.0 c.from_residual-in_err-lf.result behind_cr
    c.in_err-lf.ensures c.from_residual-in_err-lf.ensures.1

pub returns : goal.returns
returns c =
    let behind_cr = left_ok _ (all_left (stop_form _)) c.in_ok-cr.ensures in
    left_none (left_ok _ behind_cr c.in_ok-lf.ensures)
