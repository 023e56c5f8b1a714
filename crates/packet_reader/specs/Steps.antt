-- What is promised of a reader's step (paper 01, "Fields"), in packets of the kind named (paper 02, (i)).
use Rattle.std.specs.Prelude.{◌≡◌, Result}
use Rattle.refusals.specs.declared.Refusal.{Refusal}
use Rattle.packet.specs.declared.Record.{Record}
use Rattle.packet.specs.Fields.{packet_step_of, step_of}
use Rattle.packet_reader.specs.declared.PacketReader.{PacketReader}

-- a step of a reader: the cursor's answer, and the reader over the same bytes, of the same kind, at the offset that it names, the same one
-- with a refusal (paper 01, "Fields")
pub record Stepped (before : PacketReader) (answer : Result Record Refusal) (after : PacketReader) : Type 0 where
  pub answers : packet_step_of answer (record { at = after.at }) ≡ step_of before.kind before.bytes.now before.at
  pub same_bytes : after.bytes ≡ before.bytes
  pub same_kind : after.kind ≡ before.kind
  pub moves : after.at ≡ (step_of before.kind before.bytes.now before.at).next.at
