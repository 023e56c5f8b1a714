-- `listing_io::write_whole` meets its contract: each part goes behind those that are written.
use Rattle.std.proofs.Common.{arith}
use Rattle.listing_io.proofs.PrintLaws.{part_more}
use Rattle.listing_io.proofs.write_whole.Goals as goal

pub loop-at-preserved : goal.loop-at-preserved
loop-at-preserved g c =
    let part = c.write_part-taken in
    (omega arith, part_more _ _ _ c.args.text.now c.loop-at.at part.result c.loop-at.invariant.1 part.ensures.writes (omega arith))
