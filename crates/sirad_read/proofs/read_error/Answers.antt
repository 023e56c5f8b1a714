-- Not judged whole, bytes left, a frame of another kind, or its flags.
use Rattle.std.proofs.Common.{refl}
use Rattle.sirad_fields.proofs.ReadingLaws.{halted_kind, other_size, no_frame, one_frame, error_unframed, error_other, error_made}
use Rattle.sirad_read.proofs.read_error.Goals as goal

pub returns-in_default : goal.returns-in_default
returns-in_default c = error_unframed _ refl (no_frame _ (halted_kind _ c.judge.ensures.answers c.in_default.not-Whole))

pub returns-then-length-frame : goal.returns-then-length-frame
returns-then-length-frame c =
    error_unframed _ refl (no_frame _ (other_size _ c.judge.ensures.answers c.in-Whole.is c.if-length-frame.true))

pub returns-then-kind-ne-ERROR : goal.returns-then-kind-ne-ERROR
returns-then-kind-ne-ERROR c =
    let one = one_frame _ c.judge.ensures.answers c.in-Whole.is c.if-length-frame.false in
    error_other _ refl one c.if-kind-ne-ERROR.true

pub returns : goal.returns
returns c =
    let one = one_frame _ c.judge.ensures.answers c.in-Whole.is c.if-length-frame.false in
    error_made _ refl one c.if-kind-ne-ERROR.false c.number_at.ensures
