-- `capture_judge::too_long` meets its contract. No sum is formed, so none overflows.
use mathlib.Core.Logic.{inl, inr}
use native.Mathlib.Omega.{arith}
use Rattle.capture.proofs.Seams.{size_over, size_test}
use Rattle.capture_judge.proofs.too_long.Goals as goal

pub returns-then-offset-gt-MAX_BYTES : goal.returns-then-offset-gt-MAX_BYTES
returns-then-offset-gt-MAX_BYTES c = size_over _ _ _ (inl c.if-offset-gt-MAX_BYTES.true)

pub returns-then-left-front : goal.returns-then-left-front
returns-then-left-front c = size_over _ _ _ (inr (omega arith, c.if-left-front.true))

pub returns : goal.returns
returns c =
    let a = c.args in
    size_test a.offset a.front a.back (omega arith) (omega arith)
