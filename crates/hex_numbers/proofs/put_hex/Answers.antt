-- Storing the digits left gives what storing all of them gave.
use Rattle.std.proofs.Common.{sym, refl, ◌∙◌, arith, length-set}
use Rattle.digits.proofs.HexSteps.{digit_next, digit_end, digits_fit, digits_unfit}
use Rattle.hex_numbers.proofs.put_hex.Goals as goal

pub returns-then-out-at : goal.returns-then-out-at
returns-then-out-at c = sym (digits_unfit _ _ _ _ (omega arith))

pub returns-then-out-at-2 : goal.returns-then-out-at-2
returns-then-out-at-2 c = sym (digits_unfit _ _ _ _ (omega arith))

pub loop-i-preserved : goal.loop-i-preserved
loop-i-preserved c =
    let a = c.args in
    let l = c.loop-i in
    let g = c.glyph_of in
    let next = digit_next l.out a.at l.i l.rest g.result c.loop-i-test.true g.ensures in
    sym next ∙ l.invariant

pub returns : goal.returns
returns c =
    let a = c.args in
    let l = c.loop-i in
    let fits = digits_fit a.out.now a.at a.n a.v (omega arith) in
    sym (digit_end l.out a.at l.i l.rest (omega arith)) ∙ l.invariant ∙ sym fits
