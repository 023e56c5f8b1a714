-- `packet_header::is_packet` meets its contract: the judgement taken apart.
use Rattle.std.proofs.Common.{sym, ◌∙◌}
use borrow.Author.Tests.{ne_eqb}
use Rattle.packet.proofs.FieldLaws.{other_named, not_whole, other_kind, same_kind}
use Rattle.packet_header.proofs.is_packet.Goals as goal

pub returns-in_default : goal.returns-in_default
returns-in_default c = sym (other_named _ _ c.dialect_named.ensures c.in_default.is)

pub returns-in_default-judge : goal.returns-in_default-judge
returns-in_default-judge c =
    sym (not_whole _ _ c.dialect_named.ensures c.in-Some.is c.judge.ensures.answers c.in_default-judge.not-Whole)

pub returns-then-found-kind : goal.returns-then-found-kind
returns-then-found-kind c =
    sym (same_kind _ _ c.dialect_named.ensures c.in-Some.is c.judge.ensures.answers c.in-Whole.is c.if-found-kind.true)

pub returns-else-found-kind : goal.returns-else-found-kind
returns-else-found-kind c =
    let o = other_kind _ _ c.dialect_named.ensures c.in-Some.is c.judge.ensures.answers c.in-Whole.is c.if-found-kind.false in
    ne_eqb _ _ c.if-found-kind.false ∙ sym o
