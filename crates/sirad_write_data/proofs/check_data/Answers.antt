-- Each return is one law: 53, 52, nothing, 50.
use Rattle.std.proofs.Common.{sym, ◌∙◌}
use Rattle.std.proofs.lemmas.Result.{err_from_is_err_and}
use Rattle.sirad_fields.proofs.WritingLaws.{kind_unknown, too_many, data_accepted, data_unencoded}
use Rattle.sirad_write_data.proofs.check_data.Goals as goal

pub returns-in_err-known-clause-refusal : goal.returns-in_err-known-clause-refusal
returns-in_err-known-clause-refusal c =
    let p = err_from_is_err_and c.from_residual.result c.from_residual.ensures.1 in
    let a = c.args in
    rw (p.1, p.2) (kind_unknown a.kind a.content.now (sym c.try_from.ensures ∙ c.in_err-known.was))

pub returns-then-content-gt-MOST_CHARACTERS-clause-refusal : goal.returns-then-content-gt-MOST_CHARACTERS-clause-refusal
returns-then-content-gt-MOST_CHARACTERS-clause-refusal c =
    let a = c.args in
    too_many a.kind a.content.now (sym c.try_from.ensures ∙ c.in_ok-known.was) c.if-content-gt-MOST_CHARACTERS.true

pub returns-then-all_characters-clause-refusal : goal.returns-then-all_characters-clause-refusal
returns-then-all_characters-clause-refusal c =
    let a = c.args in
    data_accepted a.kind a.content.now (sym c.try_from.ensures ∙ c.in_ok-known.was) c.if-content-gt-MOST_CHARACTERS.false
    c.all_characters.ensures c.if-all_characters.true

pub returns-clause-refusal : goal.returns-clause-refusal
returns-clause-refusal c =
    let a = c.args in
    data_unencoded a.kind a.content.now (sym c.try_from.ensures ∙ c.in_ok-known.was) c.if-content-gt-MOST_CHARACTERS.false
    c.all_characters.ensures c.if-all_characters.false
