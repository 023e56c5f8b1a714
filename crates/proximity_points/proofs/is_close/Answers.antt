-- `proximity_points::is_close` meets its contract: the first coordinate beyond the limit decides, else the last one.
use Rattle.proximity.proofs.PointLaws.{x_beyond, y_beyond, z_decides}
use Rattle.proximity_points.proofs.is_close.Goals as goal

pub returns-then-is_within-2 : goal.returns-then-is_within-2
returns-then-is_within-2 c =
    z_decides _ _ _ c.word_at.ensures c.is_within.ensures _ c.if-is_within.true
    c.word_at-then-is_within.ensures c.is_within-then-is_within.ensures _ c.if-is_within-2.true
    c.word_at-then-is_within-2.ensures c.is_within-then-is_within-2.ensures

pub returns-else-is_within-2 : goal.returns-else-is_within-2
returns-else-is_within-2 c =
    y_beyond _ _ _ c.word_at.ensures c.is_within.ensures _ c.if-is_within.true
    c.word_at-then-is_within.ensures c.is_within-then-is_within.ensures c.if-is_within-2.false

pub returns-else-is_within : goal.returns-else-is_within
returns-else-is_within c = x_beyond _ _ _ c.word_at.ensures c.is_within.ensures c.if-is_within.false
