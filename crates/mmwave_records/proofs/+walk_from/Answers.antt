-- The first record, and then the remaining ones, one fewer; a whole payload lies in the room.
use Rattle.std.proofs.Common.{sym, ap, ◌∙◌, refl}
use Rattle.form.specs.Numbers.{judgement_of}
use Rattle.form.proofs.PieceLaws.{go_on, stop}
use Rattle.form.proofs.ParsedLaws.{parsed_on, parsed_halt, parsed_absent}
use Rattle.mmwave.specs.Dialects.{profile_of}
use Rattle.mmwave.proofs.Marks.{unseen, seen_again}
use Rattle.mmwave.proofs.RecordLaws.{type_test, type_repeated, type_not, type_found, payload_by}
use Rattle.mmwave.proofs.RecordLaws.{records_none, records_first, records_behind_lem}
use Rattle.mmwave.proofs.EntryLaws.{payload_fits}
use Rattle.mmwave_records.proofs.+walk_from.Goals as goal

pub returns-then-k-eq0 : goal.returns-then-k-eq0
returns-then-k-eq0 t c = c.padding_at.ensures ∙ records_none (profile_of c.args.d) _ _ _ _ _ _ c.if-k-eq0.true

pub returns-in_err-tag : goal.returns-in_err-tag
returns-in_err-tag t c =
    records_first (profile_of c.args.d) _ _ _ _ _ _ c.if-k-eq0.false
    (parsed_absent _ _ _ _ c.number.ensures.answers _ c.from_residual.result c.in_err-tag.was c.from_residual.ensures.1)

pub returns-then-seen-mark-ne0 : goal.returns-then-seen-mark-ne0
returns-then-seen-mark-ne0 t c =
    let again = seen_again _ _ _ c.mark_of-mark.ensures c.if-seen-mark-ne0.true in
    let refused = type_repeated _ _ _ _ _ _ _ c.number.ensures.answers (ap judgement_of c.in_ok-tag.was) again in
    records_first (profile_of c.args.d) _ _ _ _ _ _ c.if-k-eq0.false (stop _ _ _ _ refused)

pub returns-in_err-payload : goal.returns-in_err-payload
returns-in_err-payload t c =
    let judged = payload_by _ _ _ _ _ _ _ c.rule_of-rule.ensures c.payload_at.ensures in
    let taken =
    type_found _ _ _ _ _ _ _ c.number.ensures.answers (ap judgement_of c.in_ok-tag.was) c.mark_of-mark.ensures c.if-seen-mark-ne0.false
    c.rule_of-rule.ensures c.type_ok.ensures c.if-type_ok.true in
    let out = c.from_residual-in_err-payload in
    records_first (profile_of c.args.d) _ _ _ _ _ _ c.if-k-eq0.false
    (parsed_halt _ _ _ _ judged out.result c.in_err-payload.was out.ensures.1
    ∙ sym (go_on _ _ _ _ taken refl))

pub overflow_sub-room : goal.overflow_sub-room
overflow_sub-room t c = payload_fits _ _ _ _ _ _ _ _ c.payload_at.ensures (ap judgement_of c.in_ok-payload.was)

pub returns-then-type_ok : goal.returns-then-type_ok
returns-then-type_ok t c =
    let taken =
    type_found _ _ _ _ _ _ _ c.number.ensures.answers (ap judgement_of c.in_ok-tag.was) c.mark_of-mark.ensures c.if-seen-mark-ne0.false
    c.rule_of-rule.ensures c.type_ok.ensures c.if-type_ok.true in
    let judged = payload_by _ _ _ _ _ _ _ c.rule_of-rule.ensures c.payload_at.ensures in
    records_first (profile_of c.args.d) _ _ _ _ _ _ c.if-k-eq0.false
    (records_behind_lem _ _ _ _ _ _ _ _ c.mark_of-mark.ensures c.walk_from.ensures
    ∙ sym (parsed_on _ _ _ _ judged c.in_ok-payload.was) ∙ sym (go_on _ _ _ _ taken refl))

pub returns : goal.returns
returns t c =
    let is_fresh = unseen _ _ _ c.mark_of-mark.ensures c.if-seen-mark-ne0.false in
    let tested = type_test _ _ _ _ _ c.rule_of-rule.ensures c.type_ok.ensures in
    let refused =
    type_not _ _ _ _ _ _ _ c.number.ensures.answers (ap judgement_of c.in_ok-tag.was) is_fresh (sym tested ∙ c.if-type_ok.false) in
    records_first (profile_of c.args.d) _ _ _ _ _ _ c.if-k-eq0.false (stop _ _ _ _ refused)
