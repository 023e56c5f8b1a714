-- Each field goes on from the end of the one before; a legal record count leaves room for the headers.
use Rattle.std.proofs.Common.{sym, ap, ◌∙◌, rules}
use Rattle.form.specs.Numbers.{judgement_of}
use Rattle.form.proofs.ParsedLaws.{parsed_on, parsed_halt}
use Rattle.mmwave.specs.Dialects.{profile_of}
use Rattle.mmwave.specs.Packet.{counted}
use Rattle.mmwave.specs.Profile.{count_ok}
use Rattle.mmwave.proofs.RecordLaws.{count_leaves}
use Rattle.mmwave_pieces.proofs.behind_total.Goals as goal

pub returns-in_err-i : goal.returns-in_err-i
unfolding counted
returns-in_err-i c = parsed_halt _ _ _ _ c.skip_numbers.ensures.answers c.from_residual.result c.in_err-i.was c.from_residual.ensures.1

pub returns-in_err-objects : goal.returns-in_err-objects
unfolding counted
returns-in_err-objects c =
    let objects = c.checked_at.ensures (profile_of c.args.d).objects (λ v b l k. search rules) in
    let out = c.from_residual-in_err-objects in
    parsed_halt _ _ _ _ objects out.result c.in_err-objects.was out.ensures.1
    ∙ sym (parsed_on _ _ _ _ c.skip_numbers.ensures.answers c.in_ok-i.was)

pub returns-in_err-count : goal.returns-in_err-count
unfolding counted
returns-in_err-count c =
    let objects = c.checked_at.ensures (profile_of c.args.d).objects (λ v b l k. search rules) in
    let count = c.checked_at-2.ensures (count_ok (profile_of c.args.d) c.args.l) (λ v b l k. search rules) in
    let out = c.from_residual-in_err-count in
    parsed_halt _ _ _ _ count out.result c.in_err-count.was out.ensures.1
    ∙ sym (parsed_on _ _ _ _ objects c.in_ok-objects.was)
    ∙ sym (parsed_on _ _ _ _ c.skip_numbers.ensures.answers c.in_ok-i.was)

pub returns-in_err-j : goal.returns-in_err-j
unfolding counted
returns-in_err-j c =
    let objects = c.checked_at.ensures (profile_of c.args.d).objects (λ v b l k. search rules) in
    let count = c.checked_at-2.ensures (count_ok (profile_of c.args.d) c.args.l) (λ v b l k. search rules) in
    let subframe = c.checked_at-3.ensures (profile_of c.args.d).subframe (λ v b l k. search rules) in
    let out = c.from_residual-in_err-j in
    parsed_halt _ _ _ _ subframe out.result c.in_err-j.was out.ensures.1
    ∙ sym (parsed_on _ _ _ _ count c.in_ok-count.was)
    ∙ sym (parsed_on _ _ _ _ objects c.in_ok-objects.was)
    ∙ sym (parsed_on _ _ _ _ c.skip_numbers.ensures.answers c.in_ok-i.was)

pub overflow_sub-room : goal.overflow_sub-room
overflow_sub-room c =
    let count = c.checked_at-2.ensures (count_ok (profile_of c.args.d) c.args.l) (λ v b l k. search rules) in
    count_leaves _ _ _ _ count (ap judgement_of c.in_ok-count.was)

pub returns : goal.returns
unfolding counted
returns c =
    let objects = c.checked_at.ensures (profile_of c.args.d).objects (λ v b l k. search rules) in
    let count = c.checked_at-2.ensures (count_ok (profile_of c.args.d) c.args.l) (λ v b l k. search rules) in
    let subframe = c.checked_at-3.ensures (profile_of c.args.d).subframe (λ v b l k. search rules) in
    c.walk.ensures.answers
    ∙ sym (parsed_on _ _ _ _ subframe c.in_ok-j.was)
    ∙ sym (parsed_on _ _ _ _ count c.in_ok-count.was)
    ∙ sym (parsed_on _ _ _ _ objects c.in_ok-objects.was)
    ∙ sym (parsed_on _ _ _ _ c.skip_numbers.ensures.answers c.in_ok-i.was)
