-- What is not refused is legal; behind that it is the room alone that decides.
use Rattle.std.proofs.Common.{arith}
use Rattle.demorad.proofs.RuleLaws.{legal_at}
use Rattle.demorad.proofs.WritingLaws.{write_short, write_done}
use Rattle.demorad_write.proofs.write_command.Goals as goal

pub returns-then-out-size : goal.returns-then-out-size
returns-then-out-size c =
    let a = c.args in
    let legal = legal_at c.command_refusal.ensures.value c.in_ok-command_refusal.was in
    write_short a.rd a.code a.count a.words a.out.now legal c.command_refusal.ensures.thirty (omega arith)

pub header_word-header-requires : goal.header_word-header-requires
header_word-header-requires c =
    let legal = legal_at c.command_refusal.ensures.value c.in_ok-command_refusal.was in
    (legal.small, legal.few)

pub put_payload-requires : goal.put_payload-requires
put_payload-requires c =
    let legal = legal_at c.command_refusal.ensures.value c.in_ok-command_refusal.was in
    (legal.few, omega arith)

pub returns : goal.returns
returns c =
    let a = c.args in
    let legal = legal_at c.command_refusal.ensures.value c.in_ok-command_refusal.was in
    write_done a.rd a.code a.count a.words a.out.now legal c.command_refusal.ensures.thirty _ _ _ (omega arith)
    c.header_word-header.ensures c.put_word.ensures c.put_payload.ensures
