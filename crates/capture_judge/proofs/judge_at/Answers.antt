-- `capture_judge::judge_at` meets its contract.
use Rattle.std.proofs.Common.{sym, ◌∙◌}
use Rattle.capture.proofs.EntryLaws.{judges_unasked}
use Rattle.capture_judge.proofs.judge_at.Goals as goal

pub returns-in_err-d : goal.returns-in_err-d
returns-in_err-d c = judges_unasked _ _ _ _ _ (sym c.try_from.ensures ∙ c.in_err-d.was) c.from_residual.ensures.1
