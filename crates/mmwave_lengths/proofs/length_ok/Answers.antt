-- The conjunction, test by test.
use Rattle.mmwave.proofs.RecordLaws.{length_both, length_not}
use Rattle.mmwave_lengths.proofs.length_ok.Goals as goal

pub returns-then-length_legal : goal.returns-then-length_legal
returns-then-length_legal c = length_both _ _ _ _ _ c.length_legal.ensures c.if-length_legal.true c.payload_fits.ensures

pub returns : goal.returns
returns c = length_not _ _ _ _ _ c.length_legal.ensures c.if-length_legal.false
