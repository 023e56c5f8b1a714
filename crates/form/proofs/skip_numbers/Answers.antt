-- n four-byte fields are 4n free bytes.
use mathlib.Core.Path.{sym, ◌∙◌}
use Rattle.form.proofs.PieceLaws.{judges, frees_free}
use Rattle.form.proofs.skip_numbers.Goals as goal

pub returns : goal.returns
returns c = judges (c.skip.ensures.answers ∙ sym (frees_free _ _ _))
