-- Not judged whole, bytes left, a frame of another kind, or its fields.
use Rattle.std.proofs.Common.{refl, ◌∙◌, arith}
use Rattle.sirad_fields.proofs.ReadingLaws.{halted_kind, other_size, same_size, no_frame, one_frame}
use Rattle.sirad_fields.proofs.ReadingLaws.{status_unframed, status_other, status_length, status_read_lem}
use Rattle.sirad_read.proofs.read_status.Goals as goal

pub returns-in_default : goal.returns-in_default
returns-in_default c = status_unframed _ refl (no_frame _ (halted_kind _ c.judge.ensures.answers c.in_default.not-Whole)) _

pub returns-then-length-frame : goal.returns-then-length-frame
returns-then-length-frame c =
    status_unframed _ refl (no_frame _ (other_size _ c.judge.ensures.answers c.in-Whole.is c.if-length-frame.true)) _

pub returns-then-kind-ne-STATUS : goal.returns-then-kind-ne-STATUS
returns-then-kind-ne-STATUS c =
    let one = one_frame _ c.judge.ensures.answers c.in-Whole.is c.if-length-frame.false in
    status_other _ refl one _ c.if-kind-ne-STATUS.true

pub status_of-requires : goal.status_of-requires
status_of-requires c =
    let kind = same_size _ c.judge.ensures.answers c.in-Whole.is c.if-length-frame.false ∙ c.if-kind-ne-STATUS.false in
    let size = status_length c.args.frame.now kind in
    omega arith

pub returns : goal.returns
returns c =
    let kind = same_size _ c.judge.ensures.answers c.in-Whole.is c.if-length-frame.false ∙ c.if-kind-ne-STATUS.false in
    status_read_lem c.args.edition c.args.frame.now kind c.status_of.ensures
