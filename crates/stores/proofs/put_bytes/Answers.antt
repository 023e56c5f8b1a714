-- Storing the bytes left gives what storing all of them gave.
use mathlib.Core.Path.{refl, sym, ◌∙◌}
use native.Mathlib.Omega.{arith}
use lib.ListN.{length-set}
use Rattle.digits.proofs.StoreLaws.{within_fits, within_unfit}
use Rattle.stores.proofs.Steps.{store_start, store_next, store_end}
use Rattle.stores.proofs.put_bytes.Goals as goal

pub returns-then-out-at : goal.returns-then-out-at
returns-then-out-at c = let a = c.args in sym (within_unfit a.out.now a.at a.bytes.now (omega arith))

pub returns-then-out-at-2 : goal.returns-then-out-at-2
returns-then-out-at-2 c = let a = c.args in sym (within_unfit a.out.now a.at a.bytes.now (omega arith))

pub loop-i-init : goal.loop-i-init
loop-i-init c =
    let a = c.args in
    (omega arith, refl, store_start a.out.now a.bytes.now a.at)

pub loop-i-preserved : goal.loop-i-preserved
loop-i-preserved c =
    let a = c.args in
    let l = c.loop-i in
    let next = store_next l.out a.bytes.now a.at l.i _ c.loop-i-test.true refl in
    (omega arith, simp length-set l.invariant.1, sym next ∙ l.invariant.2)

pub shape_of-out : goal.shape_of-out
shape_of-out c = c.loop-i.invariant.1

pub returns : goal.returns
returns c =
    let a = c.args in
    let l = c.loop-i in
    let fits = within_fits a.out.now a.at a.bytes.now (omega arith) in
    sym (store_end l.out a.bytes.now a.at l.i c.loop-i-test.false) ∙ l.invariant.2 ∙ sym fits
