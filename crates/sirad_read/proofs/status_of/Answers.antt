-- The accuracy first, which an edition that there is none of refuses; then format, gain and the other numbers at their offsets.
use Rattle.std.proofs.lemmas.Result.{err_from_is_err_and}
use Rattle.sirad_fields.proofs.ReadingLaws.{status_unnamed, status_made}
use Rattle.sirad_read.proofs.status_of.Goals as goal

pub returns-in_err-accuracy_mm : goal.returns-in_err-accuracy_mm
returns-in_err-accuracy_mm c =
    let a = c.args in
    let p = err_from_is_err_and c.from_residual.result c.from_residual.ensures.1 in
    rw (p.1, p.2)
    (status_unnamed a.edition a.s.now c.number_at-accuracy.ensures c.accuracy_to_millimetres.ensures c.in_err-accuracy_mm.was)

pub returns : goal.returns
returns c =
    let a = c.args in
    status_made a.edition a.s.now c.number_at-accuracy.ensures c.accuracy_to_millimetres.ensures c.in_ok-accuracy_mm.was
    c.digit_at-format.ensures c.number_at-max_range.ensures c.number_at-ramp_time.ensures
    c.number_at-bandwidth.ensures c.number_at-time_difference.ensures
