-- Not judged whole, bytes left, or judged whole from first to last.
use Rattle.std.proofs.Common.{sym}
use Rattle.sirad_fields.proofs.ReadingLaws.{halted_kind, other_size, no_frame, one_frame}
use Rattle.sirad_read.proofs.whole_frame.Goals as goal

pub returns-in_default : goal.returns-in_default
returns-in_default c = sym (no_frame _ (halted_kind _ c.judge.ensures.answers c.in_default.not-Whole))

pub returns-then-size-frame : goal.returns-then-size-frame
returns-then-size-frame c = sym (no_frame _ (other_size _ c.judge.ensures.answers c.in-Whole.is c.if-size-frame.true))

pub returns : goal.returns
returns c = sym (one_frame _ c.judge.ensures.answers c.in-Whole.is c.if-size-frame.false)
