-- What only the code's own contracts need; no rule of the papers is stated here.
use Rattle.std.specs.Prelude.{cond, ◌≡◌, List, ℕ, ◌+◌, ◌*◌, eqb}
use Rattle.form.specs.Form.{judge_at}
use Rattle.form.specs.declared.Judgement.{Judgement}
use Rattle.form.specs.declared.Judgement.TheVariants.{Whole, Bad}
use Rattle.mmwave.specs.declared.Unit.{Unit}
use Rattle.mmwave.specs.declared.Unit.TheVariants.{Two, Four, Sixteen}
use Rattle.mmwave.specs.Profile.{Profile}
use Rattle.mmwave.specs.Packet.{records}

-- the answer of the walk over records that are all there, as a judgement: 0 is whole, up to the packet's end; any other is the reason
unfoldable pub settled : Profile → ℕ → ℕ → Judgement
settled P reason end = cond (eqb reason 0) (Whole P.kind end) (Bad reason)

-- the walk over k records from an offset on, behind others whose types have been seen, settles them so
abbrev pub Settles : Profile → ℕ → ℕ → ℕ → ℕ → ℕ → List ℕ → ℕ → Type 0
Settles P n seen k room at bs reason = settled P reason (at + 8 * k + room) ≡ judge_at (records P n seen k room) at bs

-- the bits below a unit
abbrev pub low_bits : Unit → ℕ
low_bits Two = 1
low_bits Four = 3
low_bits Sixteen = 15
