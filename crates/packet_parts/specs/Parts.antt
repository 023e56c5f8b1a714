-- What is promised of a record with the real part of the slice (paper 01, "Fields"), of packets of the kind named (paper 02, (i)).
use Rattle.std.specs.Prelude.{◌≡◌, List, [], ℕ, Result, Ok, Err}
use Rattle.refusals.specs.declared.Refusal.{Refusal}
use Rattle.refusals.specs.Numbers.{refusal_number}
use Rattle.packet.specs.Fields.{record_of, payload_of}
use Rattle.packet_parts.specs.declared.RecordPart.{RecordPart}

-- the part of the slice that is answered; with a refusal none
abbrev pub part_of : Result RecordPart Refusal → List ℕ
part_of (Ok p) = p.payload.now
part_of (Err r) = []

-- the type that is answered; with a refusal 0
abbrev pub tag_of : Result RecordPart Refusal → ℕ
tag_of (Ok p) = p.tag
tag_of (Err r) = 0

-- record j with the part: it is the payload, and the numbers are those that `record` answers (paper 01, "Fields")
pub record PartShown (kind : ℕ) (bs : List ℕ) (j : ℕ) (answer : Result RecordPart Refusal) : Type 0 where
  pub payload : part_of answer ≡ payload_of kind bs j
  pub refused : refusal_number answer ≡ (record_of kind bs j).refusal
  pub type_is : tag_of answer ≡ (record_of kind bs j).tag
