-- `listing_lines::put_decimal` meets its contract: the last digit first, then those before it.
use Rattle.std.proofs.Common.{ℕ, sym, ap, ◌∙◌, arith}
use Rattle.digits.specs.Stores.{stored}
use Rattle.listing.specs.Decimal.{decimals, decimal}
use Rattle.listing.proofs.DecimalLaws.{digit_step, digits_over, length_decimal}
use Rattle.listing_lines.proofs.put_decimal.Goals as goal

pub loop-left-init : goal.loop-left-init
unfolding decimal
loop-left-init c =
    let a = c.args in let n = c.width_of-n.ensures in
    (n ∙ sym (length_decimal a.v), ap (λ (n : ℕ). stored a.out.now a.at (decimals n a.v)) n)

pub loop-left-preserved : goal.loop-left-preserved
loop-left-preserved c =
    let l = c.loop-left in (l.invariant.0, digit_step l.out c.args.at l.left l.rest (omega arith) ∙ l.invariant.1)

pub returns : goal.returns
returns c =
    let l = c.loop-left in let a = c.args in
    digits_over l.out a.out.now a.at _ l.left l.rest a.v (omega arith) c.width_of-n.ensures l.invariant.1
