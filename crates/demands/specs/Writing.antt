-- What is written: the writers' refusals, the bytes that change, and that frames and commands read back (demand 1, demand 2; paper 01,
-- "Refusal numbers"; paper 02, (ii)).
-- Each writer promises `Writes` with the refusal of its values and its bytes: `sirad_write_data::write_data` by `data_refusal` and
-- `data_bytes`, `sirad_targets::write_targets` by `targets_refusal` and `targets_bytes`, `sirad_write::write_status` and `write_error` by
-- `status_refusal`, `status_bytes`, `error_refusal` and `error_bytes`, `demorad_write::write_command` by `legality` and `command_bytes`,
-- and `listing_text::write_listing` by 0 and `listing`. `out` is the lent buffer at entry, `after` at exit, `r` the answer.
-- Stated, and not proved here yet.
use Rattle.std.specs.Prelude.{Bool, true, false, cond, ◌&&◌, ◌||◌, ◌≡◌, List, [], ◌∷◌, ◌++◌, ℕ, ◌+◌, ◌-◌, ◌%◌, ◌^◌, ◌<◌, ◌≤◌, eqb}
use Rattle.std.specs.Prelude.{leb, length, take, drop, get_or, replicate, Ok}
use Rattle.digits.specs.Bytes.{Below, Bytes, within, is_character}
use Rattle.digits.specs.Stores.{Writes}
use Rattle.digits.specs.declared.Written.{Written}
use Rattle.units.specs.Units.{Edition, ties_of}
use Rattle.sirad.specs.Table.{block_start, TableFrame}
use Rattle.sirad_fields.specs.declared.Target.{Target}
use Rattle.sirad_fields.specs.Values.{target_written}
use Rattle.sirad_fields.specs.Frames.{blank_frame, ReadsBack}
use Rattle.sirad_fields.specs.Fields.{data_start, read_data, part_of, data_refusal, data_bytes}
use Rattle.sirad_fields.specs.Fields.{Phases, bits_of, no_target, all_carried, read_targets, targets_refusal, targets_bytes}
use Rattle.sirad_fields.specs.Fields.{status_fields, read_status, status_numbers, sent_numbers, status_refusal, status_bytes}
use Rattle.sirad_fields.specs.Fields.{read_error, error_refusal, error_bytes}
use Rattle.demorad.specs.Image.{command_bytes}
use Rattle.demorad.specs.Rules.{legality}
use Rattle.demorad.specs.Reading.{read_command, command, padded}
use Rattle.demorad.specs.Refusals.{Unwritable, First}
use Rattle.demorad.specs.declared.Command.{Command}
use Rattle.demands.specs.Words.{none, ◌when◌else◌}

-- -- Which bytes change

-- "A refusal .. writes nothing"
abbrev pub RefusalWritesNothing : Type 0
RefusalWritesNothing =
    (refusal : ℕ) (bytes out : List ℕ) (r : Written) (after : List ℕ) → Writes refusal bytes out r after → (r.refusal ≡ 0 → ⊥)
    → (after ≡ out) × (r.size ≡ 0)

-- "A writer changes the bytes it produced only"
abbrev pub WriterChangesItsBytes : Type 0
WriterChangesItsBytes =
    (refusal : ℕ) (bytes out : List ℕ) (r : Written) (after : List ℕ) → Writes refusal bytes out r after → r.refusal ≡ 0
    → (after ≡ bytes ++ drop (length bytes) out) × (r.size ≡ length bytes)

-- -- Refusals: "SiRad writing 53, 52, 50, 51", with 54 "after 50 and before 51" (paper 02, (ii)); "command writing 44, 45, 46, 51"

-- every byte is a character
abbrev pub Characters : List ℕ → Type 0
Characters cs = (i : ℕ) → i < length cs → is_character (get_or cs i 0) ≡ true

-- data frames: 53 for a kind other than 1, 2, 3, 52 for over 65,535 characters, 50 for a byte that is none, 51 for a short output
abbrev pub DataWriterRefuses : Type 0
DataWriterRefuses =
    (kind : ℕ) (cs out : List ℕ) (r : Written) (after : List ℕ) → Writes (data_refusal kind cs) (data_bytes kind cs) out r after
    → (53 when ((1 ≤ kind) × (kind ≤ 3) → ⊥)
    else 52 when (65535 < length cs)
    else 50 when (Characters cs → ⊥)
    else 51 when (length out < 16 + length cs)
    else none) r.refusal

-- a block's values have an encoding: it is empty, or a target with a number of one hex digit, a distance of four, and a magnitude that is a
-- character; its phase has one by its type
pub data BlockEncodes (t : Target) : Type 0 where
  empty_block : t.empty ≡ 1 → BlockEncodes t
  target_block : t.empty ≡ 0 → t.number < 16 → t.distance < 65536 → is_character t.magnitude ≡ true → BlockEncodes t

-- a T frame's values have an encoding: format, gain and each of the sixteen blocks
pub record TargetsEncode (format gain : ℕ) (ts : List Target) : Type 0 where
  pub format_digit : format < 16
  pub gain_character : is_character gain ≡ true
  pub blocks : (i : ℕ) → i < 16 → BlockEncodes (get_or ts i no_target)

-- a "target whose written block would be all `0`" (paper 02, (ii))
abbrev pub WrittenAsEmpty : Target → Type 0
WrittenAsEmpty t =
    (t.empty ≡ 0) × (target_written (t.number ∷ t.distance ∷ t.magnitude ∷ bits_of t.phase ∷ []) ≡ replicate 14 48)

-- T frames: 50 for a value without an encoding, 54 for such a target, 51 for a short output
abbrev pub TargetsWriterRefuses : Type 0
TargetsWriterRefuses =
    (format gain : ℕ) (ts : List Target) (out : List ℕ) (r : Written) (after : List ℕ) → length ts ≡ 16 → Phases ts
    → Writes (targets_refusal format gain ts) (targets_bytes format gain ts) out r after
    → (50 when (TargetsEncode format gain ts → ⊥)
    else 54 when ((i : ℕ) × (i < 16) × WrittenAsEmpty (get_or ts i no_target))
    else 51 when (length out < 230)
    else none) r.refusal

-- a U frame's values have an encoding: one hex digit, a character, four hex digits each
pub record StatusEncodes (format gain accuracy range ramp bandwidth time : ℕ) : Type 0 where
  pub format_digit : format < 16
  pub gain_character : is_character gain ≡ true
  pub four_digits : (accuracy < 65536) × (range < 65536) × (ramp < 65536) × (bandwidth < 65536) × (time < 65536)

-- U frames: 50 for a value without an encoding, 51 for a short output
abbrev pub StatusWriterRefuses : Type 0
StatusWriterRefuses =
    (format gain accuracy range ramp bandwidth time : ℕ) (out : List ℕ) (r : Written) (after : List ℕ)
    → Writes (status_refusal (status_numbers format gain accuracy range ramp bandwidth time))
    (status_bytes (status_numbers format gain accuracy range ramp bandwidth time)) out r after
    → (50 when (StatusEncodes format gain accuracy range ramp bandwidth time → ⊥) else 51 when (length out < 26) else none) r.refusal

-- E frames: 50 for flags of more than four hex digits, 51 for a short output
abbrev pub ErrorWriterRefuses : Type 0
ErrorWriterRefuses =
    (flags : ℕ) (out : List ℕ) (r : Written) (after : List ℕ) → Writes (error_refusal flags) (error_bytes flags) out r after
    → (50 when (65535 < flags) else 51 when (length out < 8) else none) r.refusal

-- commands: the first of 44, 45, 46, 51 whose condition holds
abbrev pub CommandWriterRefuses : Type 0
CommandWriterRefuses =
    (rd : Bool) (code count : ℕ) (words out : List ℕ) (r : Written) (after : List ℕ)
    → Writes (legality code count words) (command_bytes rd code count words) out r after
    → First (Unwritable rd code count words out) r.refusal

-- -- "Written frames read back as the values that went in" (demand 2)

-- data: judged whole with its kind, the kind and the characters
abbrev pub DataReadsBack : Type 0
DataReadsBack =
    (kind : ℕ) (cs out : List ℕ) (r : Written) (after : List ℕ) → Writes (data_refusal kind cs) (data_bytes kind cs) out r after
    → r.refusal ≡ 0
    → ReadsBack kind (take r.size after) read_data (record { refusal = 0; kind = kind; start = data_start; size = length cs })
    × (take (length cs) (drop data_start (take r.size after)) ≡ cs)

-- targets: format, gain and sixteen blocks; "an empty block carries no other value" (paper 02, (ii))
abbrev pub TargetsReadBack : Type 0
TargetsReadBack =
    (format gain : ℕ) (ts : List Target) (out : List ℕ) (r : Written) (after : List ℕ) → Phases ts
    → Writes (targets_refusal format gain ts) (targets_bytes format gain ts) out r after → r.refusal ≡ 0
    → ReadsBack 4 (take r.size after) read_targets (record { refusal = 0; format = format; gain = gain; targets = all_carried ts })

-- status: all seven values, by either edition
abbrev pub StatusReadsBack : Type 0
StatusReadsBack =
    (edition : ℕ) → Edition edition → (format gain accuracy range ramp bandwidth time : ℕ)
    (out : List ℕ) (r : Written) (after : List ℕ)
    → Writes (status_refusal (status_numbers format gain accuracy range ramp bandwidth time))
    (status_bytes (status_numbers format gain accuracy range ramp bandwidth time)) out r after
    → r.refusal ≡ 0
    → ReadsBack 5 (take r.size after) (read_status edition)
    (status_fields (ties_of edition) (status_numbers format gain accuracy range ramp bandwidth time))

-- error flags
abbrev pub ErrorReadsBack : Type 0
ErrorReadsBack =
    (flags : ℕ) (out : List ℕ) (r : Written) (after : List ℕ) → Writes (error_refusal flags) (error_bytes flags) out r after
    → r.refusal ≡ 0 → ReadsBack 6 (take r.size after) read_error (record { refusal = 0; flags = flags })

-- commands: RD, code, count and the counted words; "Writing ignores words behind the count" (paper 01, "DemoRad")
abbrev pub CommandReadsBack : Type 0
CommandReadsBack =
    (rd : Bool) (code count : ℕ) (words out : List ℕ) (r : Written) (after : List ℕ) → Below (2 ^ 32) words → length words ≡ 30
    → Writes (legality code count words) (command_bytes rd code count words) out r after → r.refusal ≡ 0
    → read_command (take r.size after) ≡ Ok (command rd code count (padded (take count words)))

-- -- "SiRad read and written again is the same but for reserved bytes, now `0`" (paper 01, "Refusal numbers"), and but for fourteen bytes
-- of
-- value 0, which become `0` (paper 02, (ii)); "a command is the same throughout"

-- byte i of a frame is reserved or of a block of value 0: in kinds 1 to 3 the eight bytes behind the size, in T frames the last four of a
-- block and all fourteen of one whose first byte is 0; in U and E frames none is
abbrev pub is_spare : ℕ → List ℕ → ℕ → Bool
is_spare kind bs i =
    cond (leb kind 3) (within 6 13 i)
    (cond (eqb kind 4) (within 4 227 i && (eqb (get_or bs (block_start i) 0) 0 || leb 10 ((i - 4) % 14))) false)

-- with room the writer takes what was read: the frame is there again, `blank_frame` of it, and all behind it stays
pub record FrameAgain (kind : ℕ) (frame out : List ℕ) (r : Written) (after : List ℕ) : Type 0 where
  pub accepted : r.refusal ≡ 0
  pub leaves : after ≡ blank_frame kind frame ++ drop (length frame) out

-- data
abbrev pub DataWritesBack : Type 0
DataWritesBack =
    (bs out : List ℕ) (r : Written) (after : List ℕ) → (read_data bs).refusal ≡ 0 → length bs ≤ length out
    → Writes (data_refusal (read_data bs).kind (part_of (read_data bs) bs)) (data_bytes (read_data bs).kind (part_of (read_data bs) bs))
    out r after
    → FrameAgain (read_data bs).kind bs out r after

-- targets
abbrev pub TargetsWriteBack : Type 0
TargetsWriteBack =
    (bs out : List ℕ) (r : Written) (after : List ℕ) → (read_targets bs).refusal ≡ 0 → length bs ≤ length out
    → Writes (targets_refusal (read_targets bs).format (read_targets bs).gain (read_targets bs).targets)
    (targets_bytes (read_targets bs).format (read_targets bs).gain (read_targets bs).targets) out r after
    → FrameAgain 4 bs out r after

-- status
abbrev pub StatusWritesBack : Type 0
StatusWritesBack =
    (edition : ℕ) (bs out : List ℕ) (r : Written) (after : List ℕ) → (read_status edition bs).refusal ≡ 0 → length bs ≤ length out
    → Writes (status_refusal (sent_numbers (read_status edition bs))) (status_bytes (sent_numbers (read_status edition bs))) out r after
    → FrameAgain 5 bs out r after

-- error flags
abbrev pub ErrorWritesBack : Type 0
ErrorWritesBack =
    (bs out : List ℕ) (r : Written) (after : List ℕ) → (read_error bs).refusal ≡ 0 → length bs ≤ length out
    → Writes (error_refusal (read_error bs).flags) (error_bytes (read_error bs).flags) out r after → FrameAgain 6 bs out r after

-- "the same but for": byte i of a frame that is written again is `0` if it is reserved or of a block of value 0, else as it was
abbrev pub ReservedBytesChange : Type 0
ReservedBytesChange =
    (kind : ℕ) (bs : List ℕ) → TableFrame kind bs → (length (blank_frame kind bs) ≡ length bs)
    × ((i : ℕ) → i < length bs → get_or (blank_frame kind bs) i 0 ≡ cond (is_spare kind bs i) 48 (get_or bs i 0))

-- commands
abbrev pub CommandWritesBack : Type 0
CommandWritesBack =
    (bs out : List ℕ) (r : Written) (after : List ℕ) → Bytes bs → (c : Command) → read_command bs ≡ Ok c → length bs ≤ length out
    → Writes (legality c.code c.count c.words) (command_bytes c.rd c.code c.count c.words) out r after
    → (r.refusal ≡ 0) × (after ≡ bs ++ drop (length bs) out)
