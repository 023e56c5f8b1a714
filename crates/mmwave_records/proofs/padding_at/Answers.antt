-- Free bytes, and then the kind.
use Rattle.std.proofs.Common.{ap}
use Rattle.form.specs.Numbers.{judgement_of}
use Rattle.form.proofs.ParsedLaws.{parsed_halt}
use Rattle.mmwave.specs.Packet.{last}
use Rattle.mmwave.proofs.RecordLaws.{last_whole}
use Rattle.mmwave_records.proofs.padding_at.Goals as goal

pub returns-in_err-end : goal.returns-in_err-end
unfolding last
returns-in_err-end c = parsed_halt _ _ _ _ c.skip.ensures.answers c.from_residual.result c.in_err-end.was c.from_residual.ensures.1

pub returns : goal.returns
returns c = last_whole _ _ _ _ c.kind_of.ensures c.skip.ensures.answers (ap judgement_of c.in_ok-end.was)
