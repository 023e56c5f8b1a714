-- The records' judgement, with the room that the total length leaves.
use Rattle.mmwave_judge.proofs.behind_header.Goals as goal

pub returns : goal.returns
returns c = c.judge_records.ensures.answers
