-- The digits left, with the number so far in front of them, give the whole number; i digits give a number below 16 ^ i.
use Rattle.std.proofs.Common.{◌+◌, ◌<◌, get_or, sym, ◌∙◌, arith, lit<}
use Rattle.digits.proofs.HexLaws.{digit_small, hex_grows}
use Rattle.digits.proofs.HexSteps.{hex_room, hex_start, hex_next, hex_end}
use Rattle.hex_numbers.proofs.hex_from.Goals as goal

pub loop-i-init : goal.loop-i-init
loop-i-init c = let a = c.args in (lit< tt, hex_start a.n a.at a.s.now)

pub overflow_mul-v : goal.overflow_mul-v
overflow_mul-v c =
    let l = c.loop-i in
    omega (arith, hex_room l.i c.args.n l.v c.loop-i-test.true c.requires.0 l.invariant.0)

pub overflow_add-v : goal.overflow_add-v
overflow_add-v c =
    let l = c.loop-i in
    let a = c.args in
    let room = hex_room l.i a.n l.v c.loop-i-test.true c.requires.0 l.invariant.0 in
    omega (arith, room, digit_small (get_or a.s.now (a.at + l.i) 0), c.digit_of-d.ensures)

pub loop-i-preserved : goal.loop-i-preserved
loop-i-preserved c =
    let l = c.loop-i in
    let a = c.args in
    let d = c.digit_of-d in
    let small : d.result < 16 = omega (arith, digit_small (get_or a.s.now (a.at + l.i) 0), d.ensures) in
    let next =
    hex_next a.n a.at l.i l.v d.result a.s.now c.loop-i-test.true c.requires.1 d.ensures in
    (hex_grows l.i l.v d.result l.invariant.0 small, sym next ∙ l.invariant.1)

pub returns : goal.returns
returns c =
    let l = c.loop-i in
    let a = c.args in
    sym (hex_end a.n a.at l.i l.v a.s.now c.loop-i-test.false) ∙ l.invariant.1
