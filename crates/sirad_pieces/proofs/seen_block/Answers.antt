-- The form that the first byte chooses, seen at once.
use Rattle.std.proofs.Common.{refl, sym, ◌∙◌, arith}
use Rattle.sirad.proofs.FrameLaws.{held_block, zeros_block}
use Rattle.sirad.proofs.Runs.{run_all}
use Rattle.sirad_pieces.proofs.seen_block.Goals as goal

pub returns-then-is_hex : goal.returns-then-is_hex
returns-then-is_hex c = λ y. held_block _ _ (omega arith) (sym c.is_hex.ensures ∙ c.if-is_hex.true) (c.seen_behind.ensures y)

pub returns : goal.returns
returns c = λ y. zeros_block _ _ (omega arith) (run_all _ _ _ _ _ refl (omega arith) (sym c.all_of.ensures ∙ y))
