-- One test after another, as the definition has them.
use Rattle.mmwave.proofs.RuleLaws.{fits_over, fits_more, fits_last}
use Rattle.mmwave_lengths.proofs.payload_fits.Goals as goal

pub returns-then-k-gt1 : goal.returns-then-k-gt1
returns-then-k-gt1 c = fits_more _ _ _ _ c.if-k-gt1.true

pub returns-then-room-m : goal.returns-then-room-m
returns-then-room-m c = fits_over _ _ _ _ c.if-room-m.true

pub returns : goal.returns
returns c = fits_last _ _ _ _ c.if-room-m.false c.if-k-gt1.false c.padding_of.ensures
