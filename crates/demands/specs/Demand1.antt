-- Demand 1: "No input stops or harms it. Each public entry tests what it is handed and answers bad input with a number from the list in the
-- rules (the choice between two lines: with an empty part). A refusal changes no lent buffer."
-- That no input stops or harms an entry is what the check of each function says: it is safe and returns on every input, for no entry asks
-- its caller for anything. Below: which number is given when, in the order of paper 01, "Refusal numbers", with the
-- entry whose promise is the definition that it is said of. What writers refuse stands in Writing.antt.
use Rattle.std.specs.Prelude.{Bool, ◌≡◌, List, ℕ, ◌*◌, ◌^◌, ◌<◌, ◌≤◌, length}
use Rattle.refusals.specs.Numbers.{refusal_number}
use Rattle.form.specs.Numbers.{refused_numbers}
use Rattle.form.specs.declared.JudgementNumbers.{JudgementNumbers}
use Rattle.reading.specs.Answers.{refused, room_in}
use Rattle.reading.specs.declared.Answer.{Answer}
use Rattle.units.specs.Float.{exponent, magnitude}
use Rattle.units.specs.Units.{decibels, centidegrees, Edition, accuracy_millimetres, millimetres}
use Rattle.units.specs.Units as numbers
use Rattle.units.specs.declared.Quantity.{Quantity}
use Rattle.sirad.specs.Table.{TableFrame}
use Rattle.sirad_fields.specs.Fields.{no_data, read_data, no_targets, read_targets, no_status, read_status, no_error, read_error}
use Rattle.sirad_fields.specs.declared.DataFrame.{DataFrame}
use Rattle.sirad_fields.specs.declared.TargetFrame.{TargetFrame}
use Rattle.sirad_fields.specs.declared.StatusFrame.{StatusFrame}
use Rattle.sirad_fields.specs.declared.ErrorFrame.{ErrorFrame}
use Rattle.packet.specs.Walk.{objects_of, records_of}
use Rattle.packet.specs.Fields.{no_header, header_of, no_record, record_of, no_step, step_of, points_of, no_point, point_of}
use Rattle.packet.specs.Refusals.{PacketOf, RecordStarts, HasPoints}
use Rattle.demands.specs.Points.{PointRefused}
use Rattle.packet.specs.declared.PacketHeader.{PacketHeader}
use Rattle.packet.specs.declared.PacketRecord.{PacketRecord}
use Rattle.packet.specs.declared.PacketStep.{PacketStep}
use Rattle.packet.specs.declared.PacketPoint.{PacketPoint}
use Rattle.demorad.specs.Reading.{read_command, answer_numbers, refused_command}
use Rattle.demorad.specs.Refusals.{Unreadable, First}
use Rattle.demorad.specs.declared.Command.{Command}
use Rattle.capture.specs.Dialects.{dialect_of}
use Rattle.capture.specs.Entries.{max_bytes, verdict, verdict_numbers, read_answer, read_leaves}
use Rattle.capture.specs.Lines.{empty_part, part_of}
use Rattle.demands.specs.Words.{none, ◌when◌else◌, ◌unless◌else◌, Refuses}

-- -- Judgement and readings

-- "judgement 1, 3, 2" (`capture_judge::judge_at`, `gateway::vq_judge`)
abbrev pub JudgementRefuses : Type 0
JudgementRefuses =
    (dialect : ℕ) (bs : List ℕ) (at : ℕ)
    → Refuses (1 unless (dialect < 3) else 3 when (max_bytes < length bs) else 2 when (length bs < at) else none)
    refused_numbers (λ (a : JudgementNumbers). a.refusal) (verdict_numbers (verdict (dialect_of dialect) bs at))

-- "readings 1, 3" (`capture_read::read_capture`, `readings::vq_open_reading`, `readings::vq_closed_reading`)
abbrev pub ReadingRefuses : Type 0
ReadingRefuses =
    (dialect : ℕ) (closed : Bool) (bs : List ℕ) (room : ℕ)
    → Refuses (1 unless (dialect < 3) else 3 when (max_bytes < length bs) else none)
    refused (λ (a : Answer). a.refusal) (read_answer (dialect_of dialect) closed bs room)

-- a refused reading changes no number of the table
abbrev pub RefusedReadingChangesNothing : Type 0
RefusedReadingChangesNothing =
    (dialect : ℕ) (closed : Bool) (bs table : List ℕ) → ((read_answer (dialect_of dialect) closed bs (room_in table)).refusal ≡ 0 → ⊥)
    → read_leaves (dialect_of dialect) closed bs table ≡ table

-- "It is also empty for a dialect or a line (either one) that 1 or 3 refuses" (`capture_lines::choose_part`, `capture_lines::choose_line`)
abbrev pub RefusedLineIsEmpty : Type 0
RefusedLineIsEmpty =
    (dialect : ℕ) (main standby : List ℕ) (closed : Bool) (room : ℕ)
    → (((read_answer (dialect_of dialect) closed main room).refusal ≡ 0)
    × ((read_answer (dialect_of dialect) closed standby room).refusal ≡ 0)
    → ⊥) → part_of (dialect_of dialect) main standby ≡ empty_part

-- -- Fields of SiRad frames: "5 slice is not exactly one whole frame of the wanted kind", and for U frames 32 (paper 02, (iv))

-- `sirad_read::read_data`: kinds 1 to 3
abbrev pub DataReaderRefuses : Type 0
DataReaderRefuses =
    (bs : List ℕ)
    → Refuses (5 unless ((kind : ℕ) × (kind ≤ 3) × TableFrame kind bs) else none) no_data (λ (a : DataFrame). a.refusal) (read_data bs)

-- `sirad_read_targets::read_targets`
abbrev pub TargetsReaderRefuses : Type 0
TargetsReaderRefuses =
    (bs : List ℕ) → Refuses (5 unless (TableFrame 4 bs) else none) no_targets (λ (a : TargetFrame). a.refusal) (read_targets bs)

-- `sirad_read::read_status`
abbrev pub StatusReaderRefuses : Type 0
StatusReaderRefuses =
    (edition : ℕ) (bs : List ℕ)
    → Refuses (5 unless (TableFrame 5 bs) else 32 unless (Edition edition) else none)
    no_status (λ (a : StatusFrame). a.refusal) (read_status edition bs)

-- `sirad_read::read_error`
abbrev pub ErrorReaderRefuses : Type 0
ErrorReaderRefuses =
    (bs : List ℕ) → Refuses (5 unless (TableFrame 6 bs) else none) no_error (λ (a : ErrorFrame). a.refusal) (read_error bs)

-- -- Fields of packets: "5, 7, 6, then for a point 30 or 31 of its first coordinate that has one"; 32 behind 6 (paper 02, (iv)); of the
-- kind
-- named, "any but 16 and 17: 5" (paper 02, (i))

-- `packet_header::header`
abbrev pub HeaderRefuses : Type 0
HeaderRefuses =
    (kind : ℕ) (bs : List ℕ)
    → Refuses (5 unless (PacketOf kind bs) else none) no_header (λ (a : PacketHeader). a.refusal) (header_of kind bs)

-- `packet_fields::record`, `packet_parts::show`
abbrev pub RecordRefuses : Type 0
RecordRefuses =
    (kind : ℕ) (bs : List ℕ) (j : ℕ)
    → Refuses (5 unless (PacketOf kind bs) else 6 unless (j < records_of bs) else none)
    no_record (λ (a : PacketRecord). a.refusal) (record_of kind bs j)

-- "else it answers 5 or 6 and the place stays" (`packet_fields::step`, `packet_reader::step`)
abbrev pub StepRefuses : Type 0
StepRefuses =
    (kind : ℕ) (bs : List ℕ) (at : ℕ)
    → Refuses (5 unless (PacketOf kind bs) else 6 unless (RecordStarts bs at) else none)
    (no_step at) (λ (a : PacketStep). a.refusal) (step_of kind bs at)

-- `packet_points::points`; a refusal has no number beside it
abbrev pub PointsRefuse : Type 0
PointsRefuse = (bs : List ℕ) → (5 unless (PacketOf 16 bs) else 7 unless (HasPoints bs) else none) (refusal_number (points_of bs))

-- `packet_points::point`
abbrev pub PointRefuses : Type 0
PointRefuses =
    (edition : ℕ) (bs : List ℕ) (i : ℕ)
    → Refuses (5 unless (PacketOf 16 bs)
    else 7 unless (HasPoints bs)
    else 6 unless (i < objects_of bs)
    else 32 unless (Edition edition)
    else 30 when PointRefused edition bs i 30
    else 31 when PointRefused edition bs i 31
    else none) no_point (λ (a : PacketPoint). a.refusal) (point_of edition bs i)

-- -- Commands: "command reading 40 to 46 rising" (`demorad_read::read_command`)

-- the first of 40 to 46 whose condition holds, and zeros beside it
abbrev pub CommandReaderRefuses : Type 0
CommandReaderRefuses =
    (bs : List ℕ) → Refuses (First (Unreadable bs)) refused_command (λ (a : ℕ × Command). a.0) (answer_numbers (read_command bs))

-- -- Numbers: 50; 32, before 30 and 31 (paper 02, (iv))

-- "a byte c from 34 to 254 (else 50) means .. dB" (`character_units::decibels_of`)
abbrev pub DecibelsRefuse : Type 0
DecibelsRefuse =
    (c : ℕ) → Refuses (50 unless ((34 ≤ c) × (c ≤ 254)) else none) numbers.refused (λ (a : Quantity). a.refusal) (decibels c)

-- the same as a phase (`character_units::centidegrees_of`, `gateway::vq_centidegrees`)
abbrev pub PhaseRefuses : Type 0
PhaseRefuses =
    (c : ℕ) → Refuses (50 unless ((34 ≤ c) × (c ≤ 254)) else none) numbers.refused (λ (a : Quantity). a.refusal) (centidegrees c)

-- `units::accuracy_to_millimetres`; a refusal has no number beside it
abbrev pub AccuracyRefuses : Type 0
AccuracyRefuses =
    (edition tenths : ℕ) → (32 unless (Edition edition) else none) (refusal_number (accuracy_millimetres edition tenths))

-- "30, 31 infinite or no number; magnitude over 1000 m": the exponent's bits are all ones; the exact value is magnitude / 2 ^ 150 metres
-- (`units::coordinate_to_millimetres`, `gateway::vq_millimetres`)
abbrev pub MillimetresRefuse : Type 0
MillimetresRefuse =
    (edition bits : ℕ)
    → Refuses (32 unless (Edition edition)
    else 30 when (exponent bits ≡ 255)
    else 31 when (1000 * 2 ^ 150 < magnitude bits)
    else none) numbers.refused (λ (a : Quantity). a.refusal) (millimetres edition bits)
