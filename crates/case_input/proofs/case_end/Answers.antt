-- `case_input::case_end` meets its contract: the tests say whether the case is whole.
use mathlib.Core.Path.{◌∙◌, ap}
use Prim.Native.Nat.{◌+◌}
use native.Mathlib.Omega.{arith}
use Rattle.case_input.proofs.CaseLaws.{end_none, end_there}
use Rattle.case_input.proofs.case_end.Goals as goal

pub returns-then-input-at : goal.returns-then-input-at
returns-then-input-at c = let a = c.args in end_none a.input.now a.at (omega arith)

pub returns-then-rest-lt4 : goal.returns-then-rest-lt4
returns-then-rest-lt4 c = let a = c.args in end_none a.input.now a.at (omega arith)

pub returns-then-rest-size : goal.returns-then-rest-size
returns-then-rest-size c =
    let a = c.args in
    end_none a.input.now a.at (omega (arith, c.word_at-size.ensures))

pub returns : goal.returns
returns c =
    let a = c.args in
    ap (λ n. a.at + 4 + n) c.word_at-size.ensures ∙ end_there a.input.now a.at (omega (arith, c.word_at-size.ensures))
