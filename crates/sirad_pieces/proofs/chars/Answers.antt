-- What is left of the run is judged as the whole run is; each turn takes a chunk of it.
use Rattle.std.proofs.Common.{◌≡◌, ◌+◌, ◌-◌, ◌*◌, ◌%◌, ap, arith}
use Rattle.form.proofs.PieceLaws.{left_by, left_ok, left_err, left_is}
use Rattle.sirad.specs.Classes.{Char}
use Rattle.sirad.specs.Sirad.{run}
use Rattle.sirad.proofs.Runs.{run_part}
use Rattle.sirad_pieces.proofs.chars.Goals as goal

pub returns-in_err-at : goal.returns-in_err-at
returns-in_err-at c =
    let i = c.loop.counter in
    left_err _ c.in_err-at.field-0.0 c.from_residual.result
    (left_by (run_part 64 (64 * i) (64 * (i + 1)) c.args.n Char (omega arith) (omega arith)) c.loop.invariant)
    c.in_err-at.ensures c.from_residual.ensures.1

pub loop-preserved : goal.loop-preserved
loop-preserved c =
    let i = c.loop.counter in
    left_ok _ (left_by (run_part 64 (64 * i) (64 * (i + 1)) c.args.n Char (omega arith) (omega arith)) c.loop.invariant)
    c.in_ok-at.ensures

pub returns : goal.returns
returns c =
    let i = c.loop.counter in
    let n = c.args.n in
    let rest : n - 64 * i ≡ n % 64 = omega arith in
    left_is (left_by (ap (λ m. run m Char) rest) c.loop.invariant) c.run_of-2.ensures
