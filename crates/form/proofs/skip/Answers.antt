-- No byte at all, the bytes not there yet, or all there.
use native.Mathlib.Omega.{arith}
use Rattle.form.proofs.PieceLaws.{judges, free_none, free_waits, free_whole}
use Rattle.form.proofs.skip.Goals as goal

pub returns-then-n-eq0 : goal.returns-then-n-eq0
returns-then-n-eq0 c = judges (free_none _ _ _ c.if-n-eq0.true)

pub returns-then-s-at : goal.returns-then-s-at
returns-then-s-at c = judges (free_waits _ _ _ (omega arith) (omega arith))

pub returns-then-s-at-2 : goal.returns-then-s-at-2
returns-then-s-at-2 c = judges (free_waits _ _ _ (omega arith) (omega arith))

pub returns : goal.returns
returns c = judges (free_whole _ _ _ (omega arith))
