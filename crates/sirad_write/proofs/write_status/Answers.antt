-- Refused, or put: by the values and the room.
use Rattle.std.proofs.lemmas.Result.{err_from_is_err_and}
use Rattle.sirad_fields.specs.Answers.{values_sent}
use Rattle.sirad_fields.specs.Fields.{status_bytes}
use Rattle.sirad_fields.proofs.FrameStores.{status_size}
use Rattle.sirad_fields.proofs.AnswerLaws.{answer_refused, answer_fits, answer_stored}
use Rattle.sirad_write.proofs.write_status.Goals as goal

pub returns-in_err-with_room : goal.returns-in_err-with_room
returns-in_err-with_room c =
    let p = err_from_is_err_and c.from_residual.result c.from_residual.ensures.1 in
    let size = status_size (values_sent c.args.values) in
    rw (p.1, p.2) (answer_refused _ _ _ 26 size c.check_status.ensures c.with_room.ensures.refusal c.in_err-with_room.was)

pub put_status-requires : goal.put_status-requires
put_status-requires c =
    let size = status_size (values_sent c.args.values) in
    let bytes = status_bytes (values_sent c.args.values) in
    (answer_fits _ bytes c.args.out.now 26 size c.check_status.ensures c.with_room.ensures.refusal c.in_ok-with_room.was).1

pub returns : goal.returns
returns c =
    let size = status_size (values_sent c.args.values) in
    answer_stored _ _ _ 26 size c.check_status.ensures c.with_room.ensures.refusal c.in_ok-with_room.was c.put_status.ensures
