-- All pass at once, or else byte by byte.
use Rattle.std.proofs.Common.{refl, sym, ◌∙◌, arith}
use Rattle.form.proofs.PieceLaws.{judges}
use Rattle.sirad.proofs.Runs.{run_all}
use Rattle.sirad_pieces.proofs.run_of.Goals as goal

pub returns-then-all_of : goal.returns-then-all_of
returns-then-all_of g c = judges (sym (run_all _ _ _ _ _ refl (omega arith) (sym c.all_of.ensures ∙ c.if-all_of.true)))
