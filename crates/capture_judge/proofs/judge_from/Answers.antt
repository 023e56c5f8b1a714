-- `capture_judge::judge_from` meets its contract. The part from an offset on is the bytes without those in front.
use mathlib.Core.Path.{ap, ◌∙◌}
use Rattle.capture.specs.Dialects.{judge_of}
use Rattle.form.proofs.PieceLaws.{judges}
use Rattle.digits.proofs.Lists.{part_drop}
use Rattle.capture.proofs.Wires.{judges_beyond}
use Rattle.capture_judge.proofs.judge_from.Goals as goal

pub returns-then-bytes-at : goal.returns-then-bytes-at
returns-then-bytes-at c = let a = c.args in judges_beyond a.d a.bytes.now a.at c.if-bytes-at.true

pub returns : goal.returns
returns c =
    let a = c.args in
    judges (c.judge_part.ensures ∙ ap (judge_of a.d) (part_drop a.bytes.now a.at))
