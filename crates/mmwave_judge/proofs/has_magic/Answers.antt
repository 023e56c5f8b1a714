-- Eight bytes are the magic exactly if their numbers are equal.
use Rattle.std.proofs.Common.{ℕ, ◌<◌, get_or}
use Rattle.mmwave.specs.Packet.{magic}
use Rattle.mmwave.proofs.Within.{magic_met, magic_missed}
use Rattle.mmwave_judge.proofs.has_magic.Goals as goal

pub returns : goal.returns
unfolding magic
returns c =
    let bs = c.args.s.now in
    let first = c.unwrap-first.result.now in
    let chunk = rw c.unwrap-first.ensures at c.first_chunk.ensures.cases in
    let small : (i : ℕ) → get_or bs i 0 < 256 = λ i. (c.type_inv.s i).fits in (
      magic_met bs first c.requires small chunk.same c.from_le_bytes.ensures c.from_le_bytes-2.ensures,
      magic_missed bs first c.requires small chunk.same c.from_le_bytes.ensures c.from_le_bytes-2.ensures,
    )
