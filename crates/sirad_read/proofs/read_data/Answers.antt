-- Not judged whole, bytes left, a frame of no data, or its size.
use Rattle.std.proofs.Common.{refl}
use Rattle.sirad_fields.proofs.ReadingLaws.{halted_kind, other_size, no_frame, one_frame, data_unframed, data_other, data_made}
use Rattle.sirad_read.proofs.read_data.Goals as goal

pub returns-in_default : goal.returns-in_default
returns-in_default c = data_unframed _ refl (no_frame _ (halted_kind _ c.judge.ensures.answers c.in_default.not-Whole))

pub returns-then-length-frame : goal.returns-then-length-frame
returns-then-length-frame c =
    data_unframed _ refl (no_frame _ (other_size _ c.judge.ensures.answers c.in-Whole.is c.if-length-frame.true))

pub returns-in_default-try_from : goal.returns-in_default-try_from
returns-in_default-try_from c =
    let one = one_frame _ c.judge.ensures.answers c.in-Whole.is c.if-length-frame.false in
    data_other _ refl one c.try_from.ensures c.in_default-try_from.is

pub returns : goal.returns
returns c =
    let one = one_frame _ c.judge.ensures.answers c.in-Whole.is c.if-length-frame.false in
    data_made _ refl one c.try_from.ensures c.in-Ok.is c.number_at-size.ensures
