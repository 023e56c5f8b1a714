-- No byte is there, it is refused, or it is the fixed one.
use Rattle.std.proofs.Common.{sym, ltb-false, eq-eqb, ne_eqb}
use Rattle.form.proofs.PieceLaws.{judges}
use Rattle.sirad.proofs.Runs.{one_ends, one_hit, one_miss}
use Rattle.sirad_bytes.proofs.fixed_at.Goals as goal

pub returns-in_default : goal.returns-in_default
returns-in_default c = judges (one_ends _ _ _ _ (ltb-false _ _ (sym c.in_default.ensures.lookup.0)))

pub returns-then-b-fixed : goal.returns-then-b-fixed
returns-then-b-fixed c =
    let there = c.in-Some.ensures.lookup.3 in
    judges (one_miss _ _ _ _ there.0 (there.1 0) (ne_eqb _ _ c.if-b-fixed.true))

pub returns : goal.returns
returns c =
    let there = c.in-Some.ensures.lookup.3 in
    judges (one_hit _ _ _ _ there.0 (there.1 0) (eq-eqb _ _ c.if-b-fixed.false))
