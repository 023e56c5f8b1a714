-- The framing, then the legality: each return is one case of the reading.
use Rattle.std.proofs.Common.{◌≡◌, ◌∙◌, sym, ap, ℕ, ◌-◌, arith}
use Rattle.std.proofs.lemmas.Result.{err_from_is_err_and}
use Rattle.demorad.specs.Reading.{length_of, header_of}
use Rattle.demorad.proofs.ReadingLaws.{is_framed, read_unframed, read_illegal, read_done}
use Rattle.demorad_read.proofs.read_command.Goals as goal

pub returns-in_err-check_framing : goal.returns-in_err-check_framing
returns-in_err-check_framing c =
    let p = err_from_is_err_and c.from_residual.result c.from_residual.ensures.1 in
    rw (p.1, p.2) (sym (read_unframed c.args.bytes.now (sym c.check_framing.ensures ∙ c.in_err-check_framing.was)))

pub overflow_sub-count : goal.overflow_sub-count
overflow_sub-count c =
    let bs = c.args.bytes.now in
    let framed = is_framed bs (sym c.check_framing.ensures ∙ c.in_ok-check_framing.was) in
    let same : c.length-count.result ≡ length_of (header_of bs) = c.length-count.ensures ∙ ap length_of c.word_at.ensures in
    omega arith

pub payload-words-requires : goal.payload-words-requires
payload-words-requires c =
    let bs = c.args.bytes.now in
    let framed = is_framed bs (sym c.check_framing.ensures ∙ c.in_ok-check_framing.was) in
    let same : c.length-count.result ≡ length_of (header_of bs) = c.length-count.ensures ∙ ap length_of c.word_at.ensures in
    (omega arith, omega arith)

pub returns-in_err-command_refusal : goal.returns-in_err-command_refusal
returns-in_err-command_refusal c =
    let p = err_from_is_err_and c.from_residual-in_err-command_refusal.result c.from_residual-in_err-command_refusal.ensures.1 in
    rw (p.1, p.2)
    (sym (read_illegal c.args.bytes.now _ _ _ _ (sym c.check_framing.ensures ∙ c.in_ok-check_framing.was)
    c.word_at.ensures c.code-code.ensures (ap (λ (m : ℕ). m - 1) c.length-count.ensures)
    c.payload-words.ensures (sym c.command_refusal.ensures.value ∙ c.in_err-command_refusal.was)))

pub returns : goal.returns
returns c =
    read_done c.args.bytes.now _ _ _ _ (sym c.check_framing.ensures ∙ c.in_ok-check_framing.was)
    c.word_at.ensures c.code-code.ensures (ap (λ (m : ℕ). m - 1) c.length-count.ensures)
    c.payload-words.ensures (sym c.command_refusal.ensures.value ∙ c.in_ok-command_refusal.was) _ c.rd-rd.ensures
