-- The bits below the unit.
use Rattle.mmwave.proofs.RuleLaws.{masked}
use Rattle.mmwave_lengths.proofs.beyond.Goals as goal

pub returns : goal.returns
returns c = masked c.args.unit _ c.low_bits.ensures
