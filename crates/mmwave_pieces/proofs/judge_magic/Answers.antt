-- As the two tests tell it.
use Rattle.std.proofs.Common.{sym, ◌∙◌}
use Rattle.form.proofs.ParsedLaws.{marker_starts, marker_ends_in, marker_parts}
use Rattle.mmwave.specs.Packet.{magic}
use Rattle.mmwave_pieces.proofs.judge_magic.Goals as goal

pub returns-then-starts_with : goal.returns-then-starts_with
unfolding magic
returns-then-starts_with c = marker_starts 20 magic 0 _ (sym c.starts_with.ensures.value ∙ c.if-starts_with.true)

pub returns-then-starts_with-2 : goal.returns-then-starts_with-2
unfolding magic
returns-then-starts_with-2 c =
    marker_ends_in 20 magic 0 _ (sym c.starts_with.ensures.value ∙ c.if-starts_with.false)
    (sym c.starts_with-2.ensures.value ∙ c.if-starts_with-2.true)

pub returns : goal.returns
unfolding magic
returns c =
    marker_parts 20 magic 0 _ (sym c.starts_with.ensures.value ∙ c.if-starts_with.false)
    (sym c.starts_with-2.ensures.value ∙ c.if-starts_with-2.false)
