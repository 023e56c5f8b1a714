-- The theorems of every form, for packets of any profile (paper 01, "Judging a place"; demand 3 at a place).
use mathlib.Core.Path.{◌≡◌}
use mathlib.Core.List.{List}
use mathlib.Core.Logic.{◌↔◌}
use Prim.Native.Nat.{ℕ, ◌<◌}
use lib.ListN.{length, drop, get_or}
use borrow.Author.Tests.{ne_eqb}
use Rattle.digits.specs.Bytes.{Bytes}
use Rattle.form.specs.declared.Judgement.TheVariants.{Bad, Waiting}
use Rattle.form.specs.Form.{◌>>=◌, judge, Completable, Inside}
use Rattle.form.specs.Pieces.{marker}
use Rattle.form.specs.Judging.{Lawful}
use Rattle.digits.proofs.Lists.{drop_one}
use Rattle.form.proofs.Theorems.{waits_exactly, inside_waits, lawful}
use Rattle.mmwave.specs.Profile.{Profile, Sound}
use Rattle.mmwave.specs.Packet.{magic, packet}
use Rattle.mmwave.proofs.Lives.{live_packet, begins_packet}

-- bytes that do not end inside a four-byte field wait exactly if no packet stands and some further bytes complete one
pub packet_waits : (P : Profile) → Sound P → (bs : List ℕ) → Bytes bs → (Inside (packet P) bs → ⊥)
    → (judge (packet P) 0 bs ≡ Waiting) ↔ Completable (packet P) bs
packet_waits P S bs = waits_exactly (packet P) bs (live_packet P S)

-- bytes that end inside a four-byte field wait
pub packet_inside : (P : Profile) (bs : List ℕ) → Inside (packet P) bs → judge (packet P) 0 bs ≡ Waiting
packet_inside P bs = inside_waits (packet P) 0 bs

-- readings can go by the packet's judgement: a whole packet lies within the bytes and is not empty, and the end waits
pub packet_lawful : (P : Profile) → Lawful (judge (packet P) 0)
packet_lawful P = lawful (packet P) (begins_packet P)

-- no packet starts at a byte other than 2, the magic's first
pub no_start : (P : Profile) (at : ℕ) (bs : List ℕ) → at < length bs → (get_or bs at 0 ≡ 2 → ⊥) → judge (packet P) 0 (drop at bs) ≡ Bad 20
unfolding packet magic marker ◌>>=◌ judge
no_start P at bs h d = rw (drop_one bs at h, ne_eqb (get_or bs at 0) 2 d)
