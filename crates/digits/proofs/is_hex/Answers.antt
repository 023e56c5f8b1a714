-- A figure or a letter.
use mathlib.Core.Path.{◌∙◌}
use Rattle.digits.proofs.HexLaws.{hex_of}
use Rattle.digits.proofs.is_hex.Goals as goal

pub returns : goal.returns
returns c = c.either.ensures ∙ hex_of c.args.b _ _ c.between-figure.ensures c.between-letter.ensures
