-- Refused, or put: by the room alone.
use Rattle.std.proofs.Common.{arith, sym}
use Rattle.std.proofs.lemmas.Result.{err_from_is_err_and}
use Rattle.sirad_fields.specs.Fields.{error_bytes}
use Rattle.sirad_fields.proofs.FrameStores.{error_size}
use Rattle.sirad_fields.proofs.WritingLaws.{error_fits}
use Rattle.sirad_fields.proofs.AnswerLaws.{answer_refused, answer_fits, answer_stored}
use Rattle.sirad_write.proofs.write_error.Goals as goal

pub returns-in_err-with_room : goal.returns-in_err-with_room
returns-in_err-with_room c =
    let p = err_from_is_err_and c.from_residual.result c.from_residual.ensures.1 in
    let flags = c.args.flags in
    let fits = sym (error_fits flags (omega arith)) in
    rw (p.1, p.2) (answer_refused _ _ _ 8 (error_size flags) fits c.with_room.ensures.refusal c.in_err-with_room.was)

pub put_error-requires : goal.put_error-requires
put_error-requires c =
    let flags = c.args.flags in
    let fits = sym (error_fits flags (omega arith)) in
    (answer_fits _ (error_bytes flags) c.args.out.now 8 (error_size flags) fits c.with_room.ensures.refusal c.in_ok-with_room.was).1

pub returns : goal.returns
returns c =
    let flags = c.args.flags in
    let fits = sym (error_fits flags (omega arith)) in
    answer_stored _ _ _ 8 (error_size flags) fits c.with_room.ensures.refusal c.in_ok-with_room.was c.put_error.ensures
