-- `capture_refusal::call_refusal` meets its contract.
use Rattle.std.proofs.Common.{sym, ◌∙◌, ltb-false}
use Rattle.capture.proofs.FeedLaws.{refuses_3, refuses_read}
use Rattle.capture_refusal.proofs.call_refusal.Goals as goal

pub returns-then-too_long : goal.returns-then-too_long
returns-then-too_long c = refuses_3 _ _ _ _ _ _ (sym c.too_long.ensures ∙ c.if-too_long.true)

pub check_reading-requires : goal.check_reading-requires
check_reading-requires c = ltb-false _ _ (sym c.too_long.ensures ∙ c.if-too_long.false)

pub returns : goal.returns
returns c = refuses_read _ _ _ _ _ _ (sym c.too_long.ensures ∙ c.if-too_long.false) c.check_reading.ensures
