-- `listing_gather::append` meets its contract: as many bytes as were got and as there is room for.
use Rattle.std.proofs.Common.{◌+◌, ◌-◌, ◌<◌, ◌≤◌, length, arith}
use Rattle.listing.proofs.GatherLaws.{appends}
use Rattle.listing.proofs.PutLaws.{puts_taken}
use Rattle.listing_gather.proofs.append.Goals as goal

pub returns-clause-appends : goal.returns-clause-appends
returns-clause-appends c =
    let a = c.args in let n = c.min-n.result in
    let fits : n ≤ length a.block.now = omega (arith, c.min-n.ensures) in
    let room : a.size + n ≤ length a.buffer.now = omega (arith, c.min-n.ensures) in
    let puts = puts_taken a.block.now a.buffer.now _ a.size n c.put_bytes.ensures fits room in
    let few : n ≤ a.got = omega (arith, c.min-n.ensures) in
    let left : n ≤ length a.buffer.now - a.size = omega (arith, c.min-n.ensures) in
    let some : 0 < a.got → 0 < length a.buffer.now - a.size → 0 < n = λ h k. omega (arith, c.min-n.ensures) in
    appends puts fits few left c.requires.size_in_bounds some
