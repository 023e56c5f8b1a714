-- `capture_scan::find` meets its contract. The bytes passed so far are clear of the mark.
use mathlib.Core.Path.{sym, ◌∙◌}
use native.Mathlib.Omega.{arith}
use Rattle.capture.proofs.ScanLaws.{clear_none, clear_join, clear_true, next_beyond, next_at, stops_at_mark}
use Rattle.capture_scan.proofs.find.Goals as goal

pub returns-then-bytes-from : goal.returns-then-bytes-from
returns-then-bytes-from c = next_beyond _ _ _ c.if-bytes-from.true

pub overflow_sub-near : goal.overflow_sub-near
overflow_sub-near c = omega (arith, c.few-near.ensures.lower_bound.0)

pub returns-then-near-from-lt16 : goal.returns-then-near-from-lt16
returns-then-near-from-lt16 c =
    let f = c.few-near.ensures.lower_bound in
    next_at _ _ _ _ _ (omega arith) f.0 f.1 (clear_none _ _ _) f.2 (λ w. c.few-near.ensures.result_value (omega arith) w)

pub loop-at-init : goal.loop-at-init
loop-at-init c =
    let f = c.few-near.ensures.lower_bound in let p = c.pass_runs-at.ensures in
    (omega (arith, f.0, p.0), p.1, clear_join _ _ _ _ _ f.2 p.2)

pub loop-at-preserved : goal.loop-at-preserved
loop-at-preserved c =
    let clear = clear_true _ _ _ _ (sym c.misses-clear.ensures ∙ c.if-clear.true) in
    (omega arith, omega arith, clear_join _ _ _ _ _ c.loop-at.invariant.2 clear)

pub returns-else-clear : goal.returns-else-clear
returns-else-clear c =
    let f = c.few.ensures.lower_bound in let l = c.loop-at.invariant in
    next_at _ _ _ _ _ l.0 f.0 f.1 l.2 f.2
    (stops_at_mark _ _ 32 _ _ (omega arith) (sym c.misses-clear.ensures ∙ c.if-clear.false) f.2 c.few.ensures.result_value)

pub returns : goal.returns
returns c =
    let f = c.few-2.ensures.lower_bound in let l = c.loop-at.invariant in
    next_at _ _ _ _ _ l.0 f.0 f.1 l.2 f.2 (λ w. c.few-2.ensures.result_value (omega arith) w)
