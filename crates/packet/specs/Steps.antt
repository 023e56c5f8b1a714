-- What stepping through a packet from its first record gives (paper 01, "Fields").
use Rattle.std.specs.Prelude.{◌≡◌, List, ℕ, zero, suc, ◌<◌}
use Rattle.packet.specs.declared.PacketRecord.{PacketRecord}
use Rattle.packet.specs.declared.PacketStep.{PacketStep}
use Rattle.packet.specs.Walk.{records_of}
use Rattle.packet.specs.Fields.{record_of, no_step, step_of}

-- the step that shows a record and leaves the cursor at this offset
abbrev pub step_over : PacketRecord → ℕ → PacketStep
step_over r at = record { refusal = r.refusal; tag = r.tag; start = r.start; length = r.length; next = record { at = at } }

-- the cursor's offset after j steps from 40
unfoldable pub cursor_after : ℕ → List ℕ → ℕ → ℕ
cursor_after kind bs zero = 40
cursor_after kind bs (suc j) = (step_of kind bs (cursor_after kind bs j)).next.at

-- the steps from 40 on show record 0, 1, .. K - 1, and the next one answers 6 and stays
pub record StepsAreRecords (kind : ℕ) (bs : List ℕ) : Type 0 where
  pub each : (j : ℕ) → j < records_of bs
      → step_of kind bs (cursor_after kind bs j) ≡ step_over (record_of kind bs j) (cursor_after kind bs (suc j))
  pub then_refused : step_of kind bs (cursor_after kind bs (records_of bs)) ≡ no_step (cursor_after kind bs (records_of bs)) 6
