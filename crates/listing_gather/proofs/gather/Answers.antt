-- `listing_gather::gather` meets its contract: each block goes behind what was gathered.
use Rattle.std.proofs.Common.{refl, ◌∙◌, arith}
use Rattle.listing.proofs.GatherLaws.{gathered_none, gathered_more}
use Rattle.listing.proofs.PutLaws.{puts_length}
use Rattle.listing_gather.proofs.KnownLaws.{front_none, front_more}
use Rattle.listing_gather.proofs.gather.Goals as goal

pub loop-size-init : goal.loop-size-init
loop-size-init g c = (omega arith, refl, omega arith, gathered_none _, front_none _ _)

pub loop-size-preserved : goal.loop-size-preserved
loop-size-preserved g c =
    let v = c.loop-size.invariant in let e = c.append-size.ensures.appends in let r = c.read_block.ensures in
    let more = gathered_more v.3 e.puts (omega (arith, e.within)) in
    let same = puts_length e.puts in
    let w = c.in_ok-got.ensures in
    let grows = e.grows (omega arith) (omega arith) in
    let all = c.append-size.ensures.all in
    let front =
    front_more _ _ _ _ _ _ _ _ _ (omega arith) v.4 w.takes.0 w.within.0 e.puts (omega arith) e.within e.taken same all in
    (omega (arith, e.within), same ∙ v.1, r.within.1 ∙ v.2, more, front)
