-- `digits::is_character` meets its contract, which is that of `between` for its two ends.
use Rattle.digits.proofs.is_character.Goals as goal

pub returns : goal.returns
returns c = c.between.ensures
