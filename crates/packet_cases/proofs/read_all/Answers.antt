-- `packet_cases::read_all` is safe and ends: a case ends within the input.
use Rattle.case_input.proofs.CaseLaws.{end_within}
use Rattle.packet_cases.proofs.read_all.Goals as goal

pub loop-at-init : goal.loop-at-init
loop-at-init g c = end_within _ _ _ c.case_end-end.ensures

pub loop-at-preserved : goal.loop-at-preserved
loop-at-preserved g c = end_within _ _ _ c.case_end-end-in-loop-at.ensures
