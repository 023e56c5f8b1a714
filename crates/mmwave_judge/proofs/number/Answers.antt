-- The word at the offset, which is there.
use Rattle.std.proofs.Common.{◌∙◌}
use Rattle.digits.proofs.LittleEndianLaws.{word_there}
use Rattle.mmwave_judge.proofs.number.Goals as goal

pub returns : goal.returns
returns c = c.word_at.ensures ∙ word_there c.args.s.now c.args.at c.requires
