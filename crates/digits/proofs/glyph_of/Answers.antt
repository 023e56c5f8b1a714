-- Each return is one law: a figure, a letter.
use native.Mathlib.Omega.{arith}
use Rattle.digits.proofs.HexSteps.{glyph_figure, glyph_letter}
use Rattle.digits.proofs.glyph_of.Goals as goal

pub returns-then-d-le9 : goal.returns-then-d-le9
returns-then-d-le9 c = glyph_figure _ c.if-d-le9.true

pub returns : goal.returns
returns c = glyph_letter _ (omega arith)
