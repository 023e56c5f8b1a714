-- The digits left, with the number so far in front of them, are judged as all are; i digits give a number below 16 ^ i.
use Rattle.std.proofs.Common.{ap, sym, ◌*◌, ◌+◌, ◌-◌, arith}
use Rattle.digits.proofs.HexLaws.{digit_small, hex_grows}
use Rattle.form.proofs.PieceLaws.{left_by, left_ok, left_err, left_none}
use Rattle.sirad.specs.Sirad.{number}
use Rattle.sirad.proofs.Numbers.{number_fits, number_next, number_over}
use Rattle.sirad.proofs.Runs.{one_passed}
use Rattle.sirad_judge.proofs.hex_number.Goals as goal

pub returns-in_err-read : goal.returns-in_err-read
returns-in_err-read c =
    left_err _ c.in_err-read.field-0.0 c.from_residual.result (left_by (number_next _ _ _ c.loop-test.true) c.loop.invariant.rest)
    c.in_err-read.ensures c.from_residual.ensures.1

pub overflow_mul-value : goal.overflow_mul-value
overflow_mul-value c =
    let l = c.loop in
    omega (arith, number_fits l.counter c.args.n l.value c.loop-test.true c.requires l.invariant.small)

pub digit_of-requires : goal.digit_of-requires
digit_of-requires c = one_passed _ _ _ _ _ _ c.in_ok-read.ensures.answers

pub overflow_add-value : goal.overflow_add-value
overflow_add-value c =
    let l = c.loop in
    omega (
      arith,
      number_fits l.counter c.args.n l.value c.loop-test.true c.requires l.invariant.small,
      digit_small c.in_ok-read.read.value,
      c.digit_of.ensures,
    )

pub loop-preserved : goal.loop-preserved
loop-preserved c =
    let l = c.loop in
    record {
      small = hex_grows l.counter l.value c.digit_of.result l.invariant.small
          (omega (arith, digit_small c.in_ok-read.read.value, c.digit_of.ensures));
      rest = left_by (ap (λ d. number (c.args.n - (l.counter + 1)) (l.value * 16 + d)) (sym c.digit_of.ensures))
          (left_ok _ (left_by (number_next _ _ _ c.loop-test.true) l.invariant.rest) c.in_ok-read.ensures);
    }

pub returns : goal.returns
returns c = left_none (left_by (number_over _ _ _ c.loop-test.false) c.loop.invariant.rest)
