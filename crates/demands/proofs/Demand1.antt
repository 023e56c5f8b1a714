-- The proofs of specs/Demand1.antt: the tests of each answer's definition, in their order, each with its words.
use mathlib.Core.Bool.{Bool, true}
use mathlib.Core.Path.{◌≡◌, refl, sym}
use mathlib.Core.List.{List}
use mathlib.Core.Logic.{◌↔◌, inl, inr}
use Prim.Native.Nat.{ℕ, zero, suc, ◌*◌, ◌^◌, ◌<◌, ◌≤◌}
use native.Mathlib.Omega.{arith}
use native.Mathlib.Decide.{dec_lt}
use lib.Dec.{eqb, ltb}
use lib.ListN.{length, drop}
use borrow.Author.Tests.{lt-ltb, le-ltb, le-leb, ltb-true, ltb-false, eq-eqb, eqb-true}
use Rattle.digits.specs.Bytes.{is_character}
use Rattle.digits.proofs.Choices.{test, within_bounds}
use Rattle.form.specs.declared.Judgement.{Judgement}
use Rattle.form.specs.declared.Judgement.TheVariants.{Whole, Bad, Waiting}
use Rattle.form.specs.Numbers.{refused_numbers}
use Rattle.form.specs.declared.JudgementNumbers.{JudgementNumbers}
use Rattle.reading.specs.Answers.{refused, room_in}
use Rattle.reading.specs.declared.Answer.{Answer}
use Rattle.units.specs.Float.{exponent, magnitude, not_finite}
use Rattle.units.specs.Units.{is_edition, Edition, decibels, centidegrees, accuracy_millimetres, coordinate, millimetres}
use Rattle.units.specs.Units as numbers
use Rattle.units.specs.declared.Quantity.{Quantity}
use Rattle.units.proofs.Theorems.{edition_exactly}
use Rattle.sirad.specs.Table.{TableFrame}
use Rattle.sirad_fields.specs.Frames.{frame_kind}
use Rattle.sirad_fields.specs.Fields.{is_data, no_data, read_data, no_targets, read_targets, no_status, status_read, read_status}
use Rattle.sirad_fields.specs.Fields.{no_error, read_error}
use Rattle.sirad_fields.specs.declared.DataFrame.{DataFrame}
use Rattle.sirad_fields.specs.declared.TargetFrame.{TargetFrame}
use Rattle.sirad_fields.specs.declared.StatusFrame.{StatusFrame}
use Rattle.sirad_fields.specs.declared.ErrorFrame.{ErrorFrame}
use Rattle.sirad_fields.proofs.FrameLaws.{data_range}
use Rattle.sirad_fields.proofs.ReadsExactly.{kind_by_table}
use Rattle.demorad.proofs.RoundTrips.{refused_zero}
use Rattle.demorad.proofs.RefusedFirst.{refused_first}
use Rattle.capture.specs.Dialects.{dialect_of, judge_of}
use Rattle.capture.specs.Entries.{max_bytes, verdict, verdict_numbers, read_answer, read_leaves}
use Rattle.capture.specs.Lines.{empty_part, part_of}
use Rattle.std.specs.declared.option.Option.TheVariants.{Some, None}
use Rattle.capture.specs.declared.Dialect.{Dialect}
use Rattle.capture.specs.declared.Dialect.TheVariants.{Sirad, Packets}
use Rattle.std.specs.declared.result.Result.TheVariants.{Ok}
use Rattle.capture.proofs.EntryLaws.{unknown_refused}
use Rattle.capture.proofs.LineLaws.{unknown_part, main_long, standby_long}
use Rattle.capture.proofs.Wires.{dialect_none}
use Rattle.mmwave.specs.declared.PacketDialect.TheVariants.{MmWave, VitalSigns}
use Rattle.demands.specs.Words.{none, ◌when◌else◌, ◌unless◌else◌, Refuses}
use Rattle.demands.specs.Demand1 as say
use Rattle.demands.proofs.InOrder.{fails_exactly, less_exactly, fine, when_test, unless_test}

-- -- Judgement and readings

-- the numbers of the dialects
pub asked_is : (dialect : ℕ) → dialect < 3 → (d : Dialect) × (dialect_of dialect ≡ Some d)
unfolding dialect_of
asked_is zero h = (Sirad, refl)
asked_is (suc zero) h = (Packets MmWave, refl)
asked_is (suc (suc zero)) h = (Packets VitalSigns, refl)
asked_is (suc (suc (suc n))) h = absurd (omega arith)

-- and no others
pub asked_none : (dialect : ℕ) → 3 ≤ dialect → dialect_of dialect ≡ None
asked_none dialect h = sym (dialect_none dialect (λ e. omega arith) (λ e. omega arith) (λ e. omega arith))

not_refused : (j : Judgement) → (verdict_numbers (Ok j)).refusal ≡ 0
not_refused (Whole k n) = refl
not_refused (Bad r) = refl
not_refused Waiting = refl

verdict_refuses : (d : Dialect) (bs : List ℕ) (at : ℕ)
    → Refuses (3 when (max_bytes < length bs) else 2 when (length bs < at) else none) refused_numbers (λ (a : JudgementNumbers). a.refusal)
    (verdict_numbers (verdict (Some d) bs at))
unfolding verdict
verdict_refuses d bs at =
    when_test refused_numbers (λ (a : JudgementNumbers). a.refusal) (λ n. refl) (2 when (length bs < at) else none) 3
    (ltb max_bytes (length bs)) (less_exactly max_bytes (length bs)) (verdict_numbers (verdict (Some d) bs at)) (λ long. rw long)
    (λ short.
    when_test refused_numbers (λ (a : JudgementNumbers). a.refusal) (λ n. refl) none 2
    (ltb (length bs) at) (less_exactly (length bs) at) (verdict_numbers (verdict (Some d) bs at)) (λ beyond. rw (short, beyond))
    (λ inside.
    fine refused_numbers (λ (a : JudgementNumbers). a.refusal) (λ n. refl) (verdict_numbers (verdict (Some d) bs at))
    (rw (short, inside) (not_refused (judge_of d (drop at bs))))))

pub judgement_refuses : say.JudgementRefuses
judgement_refuses dialect bs at =
    unless_test refused_numbers (λ (a : JudgementNumbers). a.refusal) (λ n. refl)
    (3 when (max_bytes < length bs) else 2 when (length bs < at) else none) 1
    (ltb dialect 3) (less_exactly dialect 3) (verdict_numbers (verdict (dialect_of dialect) bs at))
    (λ f. rw (asked_none dialect (ltb-false dialect 3 f), ← unknown_refused bs at))
    (λ y. let k = asked_is dialect (ltb-true dialect 3 y) in rw k.1 (verdict_refuses k.0 bs at))

-- a reading's number
abbrev read_number : Answer → ℕ
read_number a = a.refusal

pub reading_refuses : say.ReadingRefuses
unfolding read_answer
reading_refuses dialect closed bs room =
    unless_test refused read_number (λ n. refl) (3 when (max_bytes < length bs) else none) 1
    (ltb dialect 3) (less_exactly dialect 3) (read_answer (dialect_of dialect) closed bs room)
    (λ f. rw (asked_none dialect (ltb-false dialect 3 f)))
    (λ y.
    let k = asked_is dialect (ltb-true dialect 3 y) in
    when_test refused read_number (λ n. refl) none 3
    (ltb max_bytes (length bs)) (less_exactly max_bytes (length bs)) (read_answer (dialect_of dialect) closed bs room)
    (λ long. rw (k.1, long))
    (λ short. fine refused read_number (λ n. refl) (read_answer (dialect_of dialect) closed bs room) (rw (k.1, short))))

-- what is not refused is a known dialect's, within the size limit
reading_accepts : (d : Dialect) (closed : Bool) (bs : List ℕ) (room : ℕ) → length bs ≤ max_bytes
    → (read_answer (Some d) closed bs room).refusal ≡ 0
unfolding read_answer
reading_accepts d closed bs room h = rw (le-ltb max_bytes (length bs) h)

pub refused_reading_changes_nothing : say.RefusedReadingChangesNothing
unfolding read_leaves
refused_reading_changes_nothing dialect closed bs table h = by_number (dec_lt dialect 3) (dec_lt max_bytes (length bs))
  where
    by_number : Dec (dialect < 3) → Dec (max_bytes < length bs) → read_leaves (dialect_of dialect) closed bs table ≡ table
    by_number (no l) long = rw (asked_none dialect (omega arith))
    by_number (yes l) (yes long) = let k = asked_is dialect l in rw (k.1, lt-ltb max_bytes (length bs) long)
    by_number (yes l) (no long) =
        let k = asked_is dialect l in absurd (h (rw k.1 (reading_accepts k.0 closed bs (room_in table) (omega arith))))

pub refused_line_is_empty : say.RefusedLineIsEmpty
refused_line_is_empty dialect main standby closed room h = by_number (dec_lt dialect 3)
  where
    by_length : (d : Dialect) → dialect_of dialect ≡ Some d → Dec (max_bytes < length main) → Dec (max_bytes < length standby)
        → part_of (dialect_of dialect) main standby ≡ empty_part
    by_length d e (yes l) m = rw e (sym (main_long d main standby l))
    by_length d e (no l) (yes m) = rw e (sym (standby_long d main standby (omega arith) m))
    by_length d e (no l) (no m) = absurd
        (h (rw e (reading_accepts d closed main room (omega arith)), rw e (reading_accepts d closed standby room (omega arith))))

    by_number : Dec (dialect < 3) → part_of (dialect_of dialect) main standby ≡ empty_part
    by_number (yes l) = let k = asked_is dialect l in by_length k.0 k.1 (dec_lt max_bytes (length main)) (dec_lt max_bytes (length standby))
    by_number (no l) = rw (asked_none dialect (omega arith)) (sym (unknown_part main standby))

-- -- Fields of SiRad frames

-- the test of a kind says that the bytes are such a frame
kind_exactly : (kind : ℕ) (bs : List ℕ) → 0 < kind → (eqb (frame_kind bs) kind ≡ true) ↔ TableFrame kind bs
kind_exactly kind bs some =
    let e = kind_by_table kind bs some in
    (λ y. e.0 (eqb-true (frame_kind bs) kind y), λ f. eq-eqb (frame_kind bs) kind (e.1 f))

data_exactly : (bs : List ℕ) → (is_data (frame_kind bs) ≡ true) ↔ ((kind : ℕ) × (kind ≤ 3) × TableFrame kind bs)
data_exactly bs = (
  λ y.
      let range = data_range (frame_kind bs) y in
      (frame_kind bs, range.1, (kind_by_table (frame_kind bs) bs range.0).0 refl),
  λ h. rw ((kind_by_table h.0 bs h.2.some).1 h.2) (within_kinds h.0 h.2.some h.1),
)
  where
    within_kinds : (kind : ℕ) → 1 ≤ kind → kind ≤ 3 → is_data kind ≡ true
    within_kinds kind l m = rw (le-leb 1 kind l, le-leb kind 3 m)

pub data_reader_refuses : say.DataReaderRefuses
unfolding read_data
data_reader_refuses bs =
    unless_test no_data (λ (a : DataFrame). a.refusal) (λ n. refl) none 5 (is_data (frame_kind bs)) (data_exactly bs) (read_data bs)
    (λ f. rw f) (λ y. fine no_data (λ (a : DataFrame). a.refusal) (λ n. refl) (read_data bs) (rw y))

pub targets_reader_refuses : say.TargetsReaderRefuses
unfolding read_targets
targets_reader_refuses bs =
    unless_test no_targets (λ (a : TargetFrame). a.refusal) (λ n. refl) none 5 (eqb (frame_kind bs) 4) (kind_exactly 4 bs (omega arith))
    (read_targets bs) (λ f. rw f) (λ y. fine no_targets (λ (a : TargetFrame). a.refusal) (λ n. refl) (read_targets bs) (rw y))

pub status_reader_refuses : say.StatusReaderRefuses
unfolding read_status status_read
status_reader_refuses edition bs =
    unless_test no_status (λ (a : StatusFrame). a.refusal) (λ n. refl) (32 unless (Edition edition) else none) 5
    (eqb (frame_kind bs) 5) (kind_exactly 5 bs (omega arith)) (read_status edition bs) (λ f. rw f)
    (λ y.
    unless_test no_status (λ (a : StatusFrame). a.refusal) (λ n. refl) none 32 (is_edition edition) (edition_exactly edition)
    (read_status edition bs) (λ f. rw (y, f))
    (λ named. fine no_status (λ (a : StatusFrame). a.refusal) (λ n. refl) (read_status edition bs) (rw (y, named))))

pub error_reader_refuses : say.ErrorReaderRefuses
unfolding read_error
error_reader_refuses bs =
    unless_test no_error (λ (a : ErrorFrame). a.refusal) (λ n. refl) none 5 (eqb (frame_kind bs) 6) (kind_exactly 6 bs (omega arith))
    (read_error bs) (λ f. rw f) (λ y. fine no_error (λ (a : ErrorFrame). a.refusal) (λ n. refl) (read_error bs) (rw y))

-- -- Commands

pub command_reader_refuses : say.CommandReaderRefuses
command_reader_refuses bs = record { in_order = refused_first bs; every_other_0 = refused_zero bs }

-- -- Numbers

-- a refused number
abbrev quantity_number : Quantity → ℕ
quantity_number a = a.refusal

character_exactly : (c : ℕ) → (is_character c ≡ true) ↔ ((34 ≤ c) × (c ≤ 254))
character_exactly c = (within_bounds 34 254 c, λ h. rw (le-leb 34 c h.0, le-leb c 254 h.1))

pub decibels_refuse : say.DecibelsRefuse
unfolding decibels
decibels_refuse c =
    unless_test numbers.refused quantity_number (λ n. refl) none 50 (is_character c) (character_exactly c) (decibels c)
    (λ f. rw f) (λ y. fine numbers.refused quantity_number (λ n. refl) (decibels c) (rw y))

pub phase_refuses : say.PhaseRefuses
unfolding centidegrees
phase_refuses c =
    unless_test numbers.refused quantity_number (λ n. refl) none 50 (is_character c) (character_exactly c) (centidegrees c)
    (λ f. rw f) (λ y. fine numbers.refused quantity_number (λ n. refl) (centidegrees c) (rw y))

pub accuracy_refuses : say.AccuracyRefuses
unfolding accuracy_millimetres
accuracy_refuses edition tenths =
    test (is_edition edition) (λ t. inr ((edition_exactly edition).0 t, rw t))
    (λ f. inl ((fails_exactly (edition_exactly edition)).0 f, rw f))

pub millimetres_refuse : say.MillimetresRefuse
unfolding millimetres coordinate
millimetres_refuse edition bits =
    unless_test numbers.refused quantity_number (λ n. refl)
    (30 when (exponent bits ≡ 255) else 31 when (1000 * 2 ^ 150 < magnitude bits) else none) 32
    (is_edition edition) (edition_exactly edition) (millimetres edition bits) (λ f. rw f)
    (λ named.
    when_test numbers.refused quantity_number (λ n. refl) (31 when (1000 * 2 ^ 150 < magnitude bits) else none) 30
    (not_finite bits) (eqb-true (exponent bits) 255, eq-eqb (exponent bits) 255) (millimetres edition bits)
    (λ infinite. rw (named, infinite))
    (λ finite.
    when_test numbers.refused quantity_number (λ n. refl) none 31
    (ltb (1000 * 2 ^ 150) (magnitude bits)) (less_exactly (1000 * 2 ^ 150) (magnitude bits)) (millimetres edition bits)
    (λ far. rw (named, finite, far))
    (λ near. fine numbers.refused quantity_number (λ n. refl) (millimetres edition bits) (rw (named, finite, near)))))
