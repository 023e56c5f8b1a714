-- The free field and its test, and the payload from its end on.
use Rattle.std.proofs.Common.{refl, sym, ◌∙◌}
use Rattle.form.proofs.PieceLaws.{go_on, stop, whole_there}
use Rattle.form.proofs.ParsedLaws.{parsed_on, parsed_halt, parsed_absent, parsed_taken, parsed_refused}
use Rattle.form.specs.Pieces.{always}
use Rattle.mmwave.specs.Packet.{payload}
use Rattle.mmwave_records.proofs.payload_at.Goals as goal

pub returns-in_err-length : goal.returns-in_err-length
unfolding payload
returns-in_err-length c =
    parsed_absent (always 24) _ _ _ c.number.ensures.answers _ c.from_residual.result c.in_err-length.was c.from_residual.ensures.1

pub returns-in_err-end : goal.returns-in_err-end
unfolding payload
returns-in_err-end c =
    let passes = sym c.length_ok.ensures ∙ c.if-length_ok.true in
    let length_taken = parsed_taken (always 24) _ _ _ c.number.ensures.answers c.in_ok-length.was passes in
    parsed_halt _ _ _ _ c.skip.ensures.answers c.from_residual-in_err-end.result c.in_err-end.was c.from_residual-in_err-end.ensures.1
    ∙ sym (go_on _ _ _ _ length_taken refl)

pub returns-then-length_ok : goal.returns-then-length_ok
unfolding payload
returns-then-length_ok c =
    let passes = sym c.length_ok.ensures ∙ c.if-length_ok.true in
    let length_taken = parsed_taken (always 24) _ _ _ c.number.ensures.answers c.in_ok-length.was passes in
    whole_there _ _ _
    ∙ sym (parsed_on _ _ _ _ c.skip.ensures.answers c.in_ok-end.was)
    ∙ sym (go_on _ _ _ _ length_taken refl)

pub returns : goal.returns
unfolding payload
returns c =
    stop _ _ _ _ (parsed_refused (always 24) _ _ _ c.number.ensures.answers c.in_ok-length.was
    (sym c.length_ok.ensures ∙ c.if-length_ok.false))
