-- Refused, or put: by the values and the room.
use Rattle.std.proofs.Common.{◌+◌, length, ◌≡◌, subst, IfOk}
use Rattle.sirad_fields.specs.Answers.{kind_number}
use Rattle.std.proofs.lemmas.Result.{err_from_is_err_and}
use Rattle.sirad_fields.proofs.RoundTrips.{data_fits}
use Rattle.sirad_fields.proofs.FrameStores.{data_size}
use Rattle.sirad_fields.proofs.AnswerLaws.{answer_refused, answer_fits, answer_stored}
use Rattle.sirad_write_data.proofs.write_data.Goals as goal

pub returns-in_err-known : goal.returns-in_err-known
returns-in_err-known c =
    let p = err_from_is_err_and c.from_residual.result c.from_residual.ensures.1 in
    let cs = c.args.content.now in
    let size = data_size c.args.kind cs in
    let values = c.check_data.ensures.refusal in
    rw (p.1, p.2) (answer_refused _ _ _ (16 + length cs) size values c.with_room.ensures.refusal c.in_err-known.was)

pub put_data-requires : goal.put_data-requires
put_data-requires c =
    let a = c.args in
    let cs = a.content.now in
    let size = data_size a.kind cs in
    let values = c.check_data.ensures.refusal in
    let fits = answer_fits _ _ a.out.now (16 + length cs) size values c.with_room.ensures.refusal c.in_ok-known.was in
    ((data_fits a.kind cs fits.0).count, fits.1)

pub returns : goal.returns
returns c =
    let cs = c.args.content.now in
    let size = data_size c.args.kind cs in
    let values = c.check_data.ensures in
    let kind = subst (λ r. IfOk r (λ known. kind_number known ≡ c.args.kind)) c.in_ok-known.ensures.value values.kind in
    let put = rw kind at c.put_data.ensures in
    answer_stored _ _ _ (16 + length cs) size values.refusal c.with_room.ensures.refusal c.in_ok-known.was put
