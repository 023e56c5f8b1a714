-- Each piece goes on from the end of the one before.
use Rattle.std.proofs.Common.{sym, ◌∙◌, rules}
use Rattle.form.proofs.PieceLaws.{judges}
use Rattle.form.proofs.ParsedLaws.{parsed_on, parsed_halt}
use Rattle.mmwave.specs.Dialects.{profile_of}
use Rattle.mmwave.specs.Packet.{packet}
use Rattle.mmwave_pieces.proofs.judge_pieces.Goals as goal

pub returns-in_err-h : goal.returns-in_err-h
unfolding packet
returns-in_err-h c = judges (parsed_halt _ _ _ _ c.judge_magic.ensures c.from_residual.result c.in_err-h.was c.from_residual.ensures.1)

pub returns-in_err-i : goal.returns-in_err-i
unfolding packet
returns-in_err-i c =
    let out = c.from_residual-in_err-i in
    judges (parsed_halt _ _ _ _ c.skip_numbers.ensures.answers out.result c.in_err-i.was out.ensures.1
    ∙ sym (parsed_on _ _ _ _ c.judge_magic.ensures c.in_ok-h.was))

pub returns-in_err-total : goal.returns-in_err-total
unfolding packet
returns-in_err-total c =
    let total = c.checked_at.ensures (profile_of c.args.d).total (λ v b l k. search rules) in
    let out = c.from_residual-in_err-total in
    judges (parsed_halt _ _ _ _ total out.result c.in_err-total.was out.ensures.1
    ∙ sym (parsed_on _ _ _ _ c.skip_numbers.ensures.answers c.in_ok-i.was)
    ∙ sym (parsed_on _ _ _ _ c.judge_magic.ensures c.in_ok-h.was))

pub returns : goal.returns
unfolding packet
returns c =
    let total = c.checked_at.ensures (profile_of c.args.d).total (λ v b l k. search rules) in
    judges (c.behind_total.ensures
    ∙ sym (parsed_on _ _ _ _ total c.in_ok-total.was)
    ∙ sym (parsed_on _ _ _ _ c.skip_numbers.ensures.answers c.in_ok-i.was)
    ∙ sym (parsed_on _ _ _ _ c.judge_magic.ensures c.in_ok-h.was))
