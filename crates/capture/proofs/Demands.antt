-- The proofs of specs/Demands.antt. Each brings a theorem of `form`, of a wire, of `reading` or of `units` to the entries' answers, within
-- the size limit.
use mathlib.Core.Bool.{Bool, true, false}
use mathlib.Core.Path.{◌≡◌, refl, sym, ap, ◌∙◌}
use mathlib.Core.List.{List, [], ◌∷◌, ◌++◌}
use mathlib.Core.Logic.{◌↔◌}
use Prim.Native.Nat.{ℕ, zero, suc, ◌+◌, ◌-◌, ◌*◌, ◌<◌, ◌≤◌}
use native.Mathlib.Omega.{arith}
use native.Mathlib.Decide.{dec_lt}
use lib.Dec.{eqb}
use lib.ListN.{length, drop, get_or, length-append, length-drop}
use lib.Seq.{drop-append-le, drop-length, get_or-drop}
use borrow.Author.Tests.{lt-ltb, le-ltb, eqb-true, eqb-false}
use Rattle.digits.specs.Bytes.{Bytes}
use Rattle.digits.specs.LittleEndian.{to_little, from_little}
use Rattle.digits.specs.Hex.{digit}
use Rattle.digits.proofs.Choices.{test}
use Rattle.digits.proofs.Lists.{below_drop}
use Rattle.digits.proofs.StoreLaws.{stored_start}
use Rattle.form.specs.Form.{judge, Completable, ◌>>=◌}
use Rattle.form.specs.Pieces.{marker, free, frees}
use Rattle.form.specs.declared.Judgement.{Judgement}
use Rattle.form.specs.declared.Judgement.TheVariants.{Whole, Bad, Waiting}
use Rattle.form.proofs.Theorems as forms
use Rattle.reading.specs.Answers.{answered, room_in}
use Rattle.reading.specs.Leftmost.{StandsAt, NoneAt, NoneStands, Leftmost, none}
use Rattle.reading.specs.Reading.{Reading, reading, flat, row_width}
use Rattle.reading.specs.declared.Answer.{Answer}
use Rattle.reading.specs.declared.Row.{Row}
use Rattle.reading.specs.Resuming.{open_from}
use Rattle.reading.proofs.Open.{roomy, stopped}
use Rattle.reading.proofs.Prefix as prefix
use Rattle.reading.proofs.Resuming as resuming
use Rattle.reading.proofs.Rows as rows
use Rattle.reading.proofs.LeftmostLaws as leftmost
use Rattle.reading.proofs.CourseLaws as courses
use Rattle.sirad.specs.Sirad.{sirad, body, number, row, run, lay, block}
use Rattle.sirad.specs.Rows.{characters, blocks}
use Rattle.sirad.proofs.Starts.{waiting_starts_once}
use Rattle.sirad.proofs.TableLaws.{table_is_form}
use Rattle.sirad.proofs.BlockLaws.{targets_by_blocks, judged_17}
use Rattle.sirad.proofs.Theorems.{sirad_waits}
use Rattle.mmwave.specs.declared.PacketDialect.TheVariants.{MmWave, VitalSigns}
use Rattle.mmwave.specs.Profile.{count_ok, fits, possible, fresh, type_ok, type_passes, type_reason, length_ok, see}
use Rattle.mmwave.specs.MmWave.{mm_wave, total_legal, per_object, payload_rule, once_bit, once_mark}
use Rattle.mmwave.specs.VitalSigns.{vital_signs, vital_total, vital_rule}
use Rattle.mmwave.specs.Packet.{magic, payload, last, records, counted, packet}
use Rattle.mmwave.specs.Dialects.{profile_of, sentences_of}
use Rattle.mmwave.proofs.Paper.{frame_exactly_if_packet}
use Rattle.mmwave.proofs.Judged.{judged_25, waits_outside, waits_inside}
use Rattle.mmwave.proofs.VitalSays as vital
use Rattle.mmwave.proofs.Dialects.{sound_of, says_of}
use Rattle.units.specs.Float.{significand, scale}
use Rattle.units.specs.Rounding.{nearest}
use Rattle.units.specs.Units.{decibels, centidegrees, ties_of, accuracy_millimetres, coordinate, millimetres}
use Rattle.units.proofs.Theorems as units
use Rattle.capture.specs.Demands as say
use Rattle.capture.specs.Demands.{StandsIn, judged_at, EndsInsideField}
use Rattle.capture.specs.Dialects.{dialect_of, form_of, judge_of, start_of}
use Rattle.capture.specs.Edges.{edges, vital_edges, block_edges, pairs_of, once_grid, once_edges}
use Rattle.capture.specs.Entries.{max_bytes, verdict, verdict_numbers, read_answer, read_leaves}
use Rattle.capture.specs.Feeding.{in_call, call_reading, rest_of, feed_answer}
use Rattle.capture.specs.Lines.{closed_rows, empty_part, chosen, part_of}
use Rattle.std.specs.declared.option.Option.TheVariants.{Some, None}
use Rattle.refusals.specs.declared.Refusal.{Refusal}
use Rattle.refusals.specs.declared.Refusal.TheVariants.{UnknownDialect}
use Rattle.capture.specs.declared.Dialect.{Dialect}
use Rattle.capture.specs.declared.Dialect.TheVariants.{Sirad, Packets}
use Rattle.std.specs.declared.result.Result.{Result}
use Rattle.std.specs.declared.result.Result.TheVariants.{Ok, Err}
use Rattle.capture.proofs.EntryLaws.{unknown_refused, verdict_long, verdict_beyond, verdict_judged}
use Rattle.capture.proofs.LineLaws.{unknown_part, main_long, standby_long, both_short}
use Rattle.capture.proofs.FeedLaws.{exactly_62, exactly_3, exactly_61, exactly_60, exactly_0, never_1}
use Rattle.capture.proofs.RunLaws.{answer_number, accepted_call, unchanged, going}
use Rattle.capture.proofs.Wires.{lawful_of, no_start, dialect_none, waiting_short}

-- -- From the judgement to the entry

-- within the limits the entry gives the judgement
judged_is : (d : Dialect) (bs : List ℕ) (at : ℕ) → length bs ≤ max_bytes → at ≤ length bs
    → judged_at d bs at ≡ Ok (judge_of d (drop at bs))
judged_is d bs at l h = sym (verdict_judged d bs at (judge_of d (drop at bs)) l h refl)

-- the entry says a judgement exactly if it is the judgement
judged_exactly : (d : Dialect) (bs : List ℕ) (at : ℕ) (j : Judgement) → length bs ≤ max_bytes → at ≤ length bs
    → (judged_at d bs at ≡ Ok j) ↔ (judge_of d (drop at bs) ≡ j)
judged_exactly d bs at j l h = (
  (λ e. let q : Ok (judge_of d (drop at bs)) ≡ Ok j = sym (judged_is d bs at l h) ∙ e in cc),
  (λ e. judged_is d bs at l h ∙ ap Ok e),
)

-- the frames that stand are those that are judged whole
stands_alike : (d : Dialect) (bs : List ℕ) (from : ℕ) (ws : List Row)
    → Leftmost (StandsIn d bs) from ws ↔ Leftmost (StandsAt (judge_of d) bs) from ws
stands_alike d bs from ws = (
  leftmost.leftmost_alike (StandsIn d bs) (StandsAt (judge_of d) bs) (λ at k n s. forms.stands_judged (form_of d) k n (drop at bs) s)
      (λ at k n s. forms.judged_stands (form_of d) k n (drop at bs) s) from ws,
  leftmost.leftmost_alike (StandsAt (judge_of d) bs) (StandsIn d bs) (λ at k n s. forms.judged_stands (form_of d) k n (drop at bs) s)
      (λ at k n s. forms.stands_judged (form_of d) k n (drop at bs) s) from ws,
)

none_alike : (d : Dialect) (bs : List ℕ) → NoneStands (StandsIn d bs) ↔ NoneStands (StandsAt (judge_of d) bs)
none_alike d bs = (
  (λ h at k n s. h at k n (forms.judged_stands (form_of d) k n (drop at bs) s)),
  (λ h at k n s. h at k n (forms.stands_judged (form_of d) k n (drop at bs) s)),
)

-- -- Demand 2

pub sirad_frames : say.SiradFrames
sirad_frames = table_is_form

pub target_frames : say.TargetFrames
target_frames = targets_by_blocks

pub broken_blocks : say.BrokenBlocks
unfolding form_of
broken_blocks = judged_17

pub packet_frames : say.PacketFrames
packet_frames d = frame_exactly_if_packet (profile_of d) (sound_of d) (sentences_of d) (says_of d)

pub vital_lengths : say.VitalLengths
vital_lengths = vital.vital_lengths

pub repeated_types : say.RepeatedTypes
unfolding form_of
repeated_types d bs = judged_25 (profile_of d) (sound_of d) (sentences_of d) (says_of d) bs

pub vital_repeats : say.VitalRepeats
unfolding sentences_of
vital_repeats bs h = let r = (repeated_types VitalSigns bs).0 h in r.lacks (vital.none_excluded r.types _)

pub whole_exactly_if_stands : say.WholeExactlyIfStands
whole_exactly_if_stands d bs l at h k n =
    let e = judged_exactly d bs at (Whole k n) l h in
    let s = forms.whole_exactly_if_stands (form_of d) k n (drop at bs) in
    ((λ j. s.0 (e.0 j)), (λ j. e.1 (s.1 j)))

pub one_stands : say.OneStands
one_stands d bs at k₁ n₁ k₂ n₂ = forms.stands_once (form_of d) k₁ n₁ k₂ n₂ (drop at bs)

pub one_leftmost : say.OneLeftmost
one_leftmost d bs =
    let there = leftmost.leftmost_exists (judge_of d) (lawful_of d) bs in (
      (reading (judge_of d) true (length bs) bs).rows,
      (stands_alike d bs 0 _).1 there,
      (λ vs l. leftmost.leftmost_unique (judge_of d) (lawful_of d) bs vs _ ((stands_alike d bs 0 vs).0 l) there),
    )

pub closed_is_leftmost : say.ClosedIsLeftmost
closed_is_leftmost d bs room ws l m = leftmost.closed_is_leftmost (judge_of d) (lawful_of d) bs room ws ((stands_alike d bs 0 ws).0 l) m

pub none_exactly_if_none_stands : say.NoneExactlyIfNoneStands
none_exactly_if_none_stands d bs room =
    let e = leftmost.none_exactly_if_none_stands (judge_of d) (lawful_of d) bs room in
    ((λ h. (none_alike d bs).1 (e.0 h)), (λ h. e.1 ((none_alike d bs).0 h)))

-- -- What an answer says

pub answers_the_reading : say.AnswersTheReading
unfolding read_answer read_leaves
answers_the_reading d closed bs table l = (
  rw (le-ltb max_bytes (length bs) l),
  rw (le-ltb max_bytes (length bs) l)
      (rows.numbers_behind_stay (judge_of d) (lawful_of d) closed bs table (room_in table) (omega arith)),
)

pub rows_fit : say.RowsFit
rows_fit d closed bs room = rows.rows_fit (judge_of d) (lawful_of d) closed bs room

pub lengths_and_skips_are_next : say.LengthsAndSkipsAreNext
lengths_and_skips_are_next d closed bs room = rows.lengths_and_skips_are_next (judge_of d) (lawful_of d) closed bs room

pub skips_counted : say.SkipsCounted
skips_counted d closed bs room = courses.skips_counted (judge_of d) (lawful_of d) closed bs room

pub stops_exactly : say.StopsExactly
stops_exactly d closed bs room at state = courses.stops_exactly (judge_of d) (lawful_of d) closed bs room at state

pub open_rows_begin_closed_rows : say.OpenRowsBeginClosedRows
open_rows_begin_closed_rows d bs room = rows.open_rows_begin_closed_rows (judge_of d) (lawful_of d) bs room

-- -- Demand 3

pub open_begins : say.OpenBegins
open_begins d A B l room = prefix.open_begins (judge_of d) (lawful_of d) room A B

pub open_resumes : say.OpenResumes
open_resumes d A B l room more = resuming.open_resumes (judge_of d) (lawful_of d) room more A B

pub closed_resumes : say.ClosedResumes
closed_resumes d bs room more = resuming.closed_resumes (judge_of d) (lawful_of d) room more bs

-- what comes first is within the limit too
first_within_lem : (A B : List ℕ) → length (A ++ B) ≤ max_bytes → length A ≤ max_bytes
first_within_lem A B l = let e = length-append A B in omega arith

pub full_is_final : say.FullIsFinal
full_is_final d A B l table s =
    let a = answers_the_reading d false A table (first_within_lem A B l) in
    let b = answers_the_reading d false (A ++ B) table l in
    let e = prefix.full_is_final (judge_of d) (lawful_of d) (room_in table) A B (sym (ap (λ (x : Answer). x.state) a.0) ∙ s) in (
      a.0 ∙ ap answered e ∙ sym b.0,
      a.1 ∙ ap (λ (r : Reading). flat r.rows ++ drop (row_width * length r.rows) table) e
          ∙ sym b.1,
    )

-- a judgement that is not waiting is said again of more bytes
said_again : (d : Dialect) (A B : List ℕ) (at : ℕ) (j : Judgement) → length (A ++ B) ≤ max_bytes → at ≤ length A → (j ≡ Waiting → ⊥)
    → judged_at d A at ≡ Ok j → judged_at d (A ++ B) at ≡ Ok j
said_again d A B at j l h settled q =
    let n = length-append A B in
    let e : judge_of d (drop at A) ≡ j = (judged_exactly d A at j (first_within_lem A B l) h).0 q in
    let kept : judge_of d (drop at A ++ B) ≡ j = (lawful_of d).stays (drop at A) B (λ w. settled (sym e ∙ w)) ∙ e in
    (judged_exactly d (A ++ B) at j l (omega arith)).1 (rw (drop-append-le at A B h) kept)

pub judged_alike : say.JudgedAlike
judged_alike d A B l at h = (
  (λ k n. said_again d A B at (Whole k n) l h (prefix.whole_waits refl)),
  (λ r. said_again d A B at (Bad r) l h (prefix.bad_waits refl)),
)

waits_from : (d : Dialect) (bs : List ℕ) → Bytes bs → (EndsInsideField d bs → ⊥) → (judge_of d bs ≡ Waiting) ↔ Completable (form_of d) bs
unfolding form_of
waits_from Sirad bs b out = sirad_waits bs b
waits_from (Packets d) bs b out = waits_outside (profile_of d) (sound_of d) (sentences_of d) (says_of d) bs b out

pub waits_exactly : say.WaitsExactly
waits_exactly d A b l at h out =
    let e = judged_exactly d A at Waiting l h in
    let w = waits_from d (drop at A) (below_drop _ at A b) out in
    ((λ q. w.0 (e.0 q)), (λ c. e.1 (w.1 c)))

waits_within : (d : Dialect) (bs : List ℕ) → EndsInsideField d bs → judge_of d bs ≡ Waiting
unfolding form_of
waits_within Sirad bs i = absurd i
waits_within (Packets d) bs i = waits_inside (profile_of d) (sound_of d) (sentences_of d) (says_of d) bs i

pub inside_waits : say.InsideWaits
inside_waits d A l at h i = (judged_exactly d A at Waiting l h).1 (waits_within d (drop at A) i)

pub end_waits : say.EndWaits
end_waits d A l = (judged_exactly d A (length A) Waiting l (omega arith)).1 (rw (drop-length A) (lawful_of d).ends)

-- -- Demand 1

-- the numbers of the dialects
asked_is : (number : ℕ) → number < 3 → (d : Dialect) × (dialect_of number ≡ Some d)
unfolding dialect_of
asked_is zero h = (Sirad, refl)
asked_is (suc zero) h = (Packets MmWave, refl)
asked_is (suc (suc zero)) h = (Packets VitalSigns, refl)
asked_is (suc (suc (suc n))) h = absurd (omega arith)

asked_none : (number : ℕ) → 3 ≤ number → dialect_of number ≡ None
asked_none number h = sym (dialect_none number (λ e. omega arith) (λ e. omega arith) (λ e. omega arith))

not_refused : (j : Judgement) → (verdict_numbers (Ok j)).refusal ≡ 0
not_refused (Whole k n) = refl
not_refused (Bad r) = refl
not_refused Waiting = refl

verdict_refuses : (d : Dialect) (bs : List ℕ) (at : ℕ)
    → ((verdict_numbers (verdict (Some d) bs at)).refusal ≡ 0) ↔ ((length bs ≤ max_bytes) × (at ≤ length bs))
verdict_refuses d bs at = (
  there (dec_lt max_bytes (length bs)) (dec_lt (length bs) at),
  λ h. ap (λ (v : Result Judgement Refusal). (verdict_numbers v).refusal) (judged_is d bs at h.0 h.1)
      ∙ not_refused (judge_of d (drop at bs)),
)
  where
    there : Dec (max_bytes < length bs) → Dec (length bs < at) → (verdict_numbers (verdict (Some d) bs at)).refusal ≡ 0
        → (length bs ≤ max_bytes) × (at ≤ length bs)
    there (yes l) m e = let z : ◌≡◌ {A = ℕ} 3 0 = rw (← verdict_long d bs at l) at e in absurd (omega arith)
    there (no l) (yes m) e = let z : ◌≡◌ {A = ℕ} 2 0 = rw (← verdict_beyond d bs at (omega arith) m) at e in absurd (omega arith)
    there (no l) (no m) e = (omega arith, omega arith)

pub judgement_refuses_only : say.JudgementRefusesOnly
judgement_refuses_only number bs at = by_number (dec_lt number 3)
  where
    by_number : Dec (number < 3) → ((verdict_numbers (verdict (dialect_of number) bs at)).refusal ≡ 0) ↔
        ((number < 3) × (length bs ≤ max_bytes) × (at ≤ length bs))
    by_number (yes l) =
        let k = asked_is number l in
        let v = verdict_refuses k.0 bs at in
        ((λ h. let g = v.0 (rw k.1 at h) in (l, g.0, g.1)), (λ h. rw k.1 (v.1 (h.1, h.2))))
    by_number (no l) =
        let u : verdict (dialect_of number) bs at ≡ Err UnknownDialect =
        rw (asked_none number (omega arith)) (sym (unknown_refused bs at)) in
        ((λ h. let z : ◌≡◌ {A = ℕ} 1 0 = rw u at h in absurd (omega arith)), (λ h. absurd (l h.0)))

reading_refuses : (d : Dialect) (closed : Bool) (bs : List ℕ) (room : ℕ)
    → ((read_answer (Some d) closed bs room).refusal ≡ 0) ↔ (length bs ≤ max_bytes)
unfolding read_answer
reading_refuses d closed bs room = (there (dec_lt max_bytes (length bs)), (λ h. rw (le-ltb max_bytes (length bs) h)))
  where
    there : Dec (max_bytes < length bs) → (read_answer (Some d) closed bs room).refusal ≡ 0 → length bs ≤ max_bytes
    there (yes l) e = let z : ◌≡◌ {A = ℕ} 3 0 = rw (lt-ltb max_bytes (length bs) l) at e in absurd (omega arith)
    there (no l) e = omega arith

pub reading_refuses_only : say.ReadingRefusesOnly
unfolding read_answer
reading_refuses_only number closed bs room = by_number (dec_lt number 3)
  where
    by_number : Dec (number < 3) → ((read_answer (dialect_of number) closed bs room).refusal ≡ 0) ↔ ((number < 3) × (length bs ≤ max_bytes))
    by_number (yes l) =
        let k = asked_is number l in
        let v = reading_refuses k.0 closed bs room in
        ((λ h. (l, v.0 (rw k.1 at h))), (λ h. rw k.1 (v.1 h.1)))
    by_number (no l) = (
      (λ h. let z : ◌≡◌ {A = ℕ} 1 0 = rw (asked_none number (omega arith)) at h in absurd (omega arith)),
      (λ h. absurd (l h.0)),
    )

pub refusal_changes_nothing : say.RefusalChangesNothing
unfolding read_leaves
refusal_changes_nothing None closed bs table h = refl
refusal_changes_nothing (Some d) closed bs table h = by_length (dec_lt max_bytes (length bs))
  where
    by_length : Dec (max_bytes < length bs) → read_leaves (Some d) closed bs table ≡ table
    by_length (yes l) = rw (lt-ltb max_bytes (length bs) l)
    by_length (no l) = absurd (h ((reading_refuses d closed bs (room_in table)).1 (omega arith)))

-- -- Two lines

rows_are : (d : Dialect) (bs : List ℕ) (ws : List Row) → Leftmost (StandsIn d bs) 0 ws → closed_rows d bs ≡ ws
unfolding closed_rows
rows_are d bs ws l = leftmost.leftmost_unique (judge_of d) (lawful_of d) bs _ ws (leftmost.leftmost_exists (judge_of d) (lawful_of d) bs)
    ((stands_alike d bs 0 ws).0 l)

pub two_lines : say.TwoLines
unfolding chosen
two_lines d main standby m s =
    record {
      from_main = λ w ws l. sym (both_short d main standby m s)
          ∙ ap (λ (rs : List Row). chosen rs (closed_rows d standby)) (rows_are d main (w ∷ ws) l);
      from_standby = λ w ws n l. sym (both_short d main standby m s)
          ∙ (λ i. chosen (rows_are d main [] (none (λ at h. n at)) i) (rows_are d standby (w ∷ ws) l i));
      from_neither = λ n o. sym (both_short d main standby m s)
          ∙ (λ i. chosen (rows_are d main [] (none (λ at h. n at)) i) (rows_are d standby [] (none (λ at h. o at)) i));
    }

pub refused_line_is_empty : say.RefusedLineIsEmpty
refused_line_is_empty number main standby closed room h = by_number (dec_lt number 3)
  where
    by_length : (d : Dialect) → dialect_of number ≡ Some d → Dec (max_bytes < length main) → Dec (max_bytes < length standby)
        → part_of (dialect_of number) main standby ≡ empty_part
    by_length d e (yes l) m = rw e (sym (main_long d main standby l))
    by_length d e (no l) (yes m) = rw e (sym (standby_long d main standby (omega arith) m))
    by_length d e (no l) (no m) = absurd
        (h (rw e ((reading_refuses d closed main room).1 (omega arith)), rw e ((reading_refuses d closed standby room).1 (omega arith))))

    by_number : Dec (number < 3) → part_of (dialect_of number) main standby ≡ empty_part
    by_number (yes l) = let k = asked_is number l in by_length k.0 k.1 (dec_lt max_bytes (length main))
        (dec_lt max_bytes (length standby))
    by_number (no l) = rw (asked_none number (omega arith)) (sym (unknown_part main standby))

-- -- SiRad's open and closed rows

-- behind a waiting offset no frame stands: its first byte would be 33
alone : (bs : List ℕ) (at i : ℕ) → judge_of Sirad (drop at bs) ≡ Waiting → at < i → NoneAt (StandsAt (judge_of Sirad) bs) i
unfolding form_of start_of
alone bs at i w l k n s = within (dec_lt i (length bs))
  where
    starts : i < length bs → eqb (get_or bs i 0) 33 ≡ true → ⊥
    starts h t =
        let m : length (drop at bs) ≡ length bs - at = length-drop at bs in
        let o : at + (i - at) ≡ i = omega arith in
        waiting_starts_once (drop at bs) w (i - at) (omega arith) (omega arith) (rw (get_or-drop, o) (eqb-true (get_or bs i 0) 33 t))

    within : Dec (i < length bs) → ⊥
    within (yes h) = test (eqb (get_or bs i 0) 33) (starts h) (λ f. prefix.bad_whole
        (no_start Sirad bs i h (eqb-false (get_or bs i 0) 33 f)) s)
    within (no h) = leftmost.none_at_end (judge_of Sirad) (lawful_of Sirad) bs i (omega arith) k n s

pub sirad_open_is_closed : say.SiradOpenIsClosed
sirad_open_is_closed bs room = leftmost.open_is_closed (judge_of Sirad) (lawful_of Sirad) bs (alone bs) room

-- -- Bytes as the port gives them

pub feeds_as_one : say.FeedsAsOne
unfolding open_from
feeds_as_one number d e s carry bs numbers run =
    let g = going number d e run in
    record {
      rows = λ room h. g.rows ∙ ap (λ (r : Reading). flat r.rows) (sym (roomy (judge_of d) (lawful_of d) 0 bs room h));
      offset = g.offset;
      waiting = g.waiting;
      carried = g.carried;
    }

pub feed_answers_the_reading : say.FeedAnswersTheReading
feed_answers_the_reading number d e s carry bytes table r carry' table' f z =
    let a = accepted_call d s carry bytes table r carry' table' (rw e at f) z in
    let ws = (call_reading d s carry bytes).rows in
    let n = rows.length_flat ws in
    let fit = a.fits.rows in (
      a.answer,
      a.kept ∙ stored_start carry (rest_of d s carry bytes) a.fits.rest,
      a.laid ∙ rw (← n) (stored_start table (flat ws) (omega arith)),
    )

pub feed_refusal_changes_nothing : say.FeedRefusalChangesNothing
feed_refusal_changes_nothing number = unchanged (dialect_of number)

pub feed_refuses_dialects : say.FeedRefusesDialects
unfolding feed_answer
feed_refuses_dialects number s carry bytes room = by_number (dec_lt number 3)
  where
    by_number : Dec (number < 3) → ((feed_answer (dialect_of number) s carry bytes room).refusal ≡ 1) ↔ (3 ≤ number)
    by_number (yes l) =
        let k = asked_is number l in
        let n = answer_number k.0 s carry bytes room in
        ((λ h. absurd (never_1 k.0 s carry bytes room (sym n ∙ rw k.1 at h))), (λ h. absurd (omega arith)))
    by_number (no l) = ((λ h. omega arith), (λ h. rw (asked_none number h)))

pub feed_refuses_exactly : say.FeedRefusesExactly
feed_refuses_exactly d s carry bytes room = rw (answer_number d s carry bytes room) (record {
  by_state = exactly_62 d s carry bytes room;
  by_size = exactly_3 d s carry bytes room;
  by_rows = exactly_61 d s carry bytes room;
  by_rest = exactly_60 d s carry bytes room;
  by_none = let h = exactly_0 d s carry bytes room in (
    (λ e. let f = h.0 e in (f.state, f.size, f.rows, f.rest)),
    (λ t. h.1 (record { state = t.0; size = t.1; rows = t.2; rest = t.3 })),
  );
})

pub carry_enough : say.CarryEnough
unfolding rest_of call_reading
carry_enough d s carry bytes = waiting_short d _ (stopped (judge_of d) (lawful_of d) s.offset (in_call s carry bytes)).waits

-- -- Millimetres

pub millimetres_refuse_only : say.MillimetresRefuseOnly
millimetres_refuse_only = units.millimetres_0

pub no_edition_first : say.NoEditionFirst
no_edition_first = units.millimetres_32

pub millimetres_nearest : say.MillimetresNearest
millimetres_nearest = units.millimetres_nearest

pub accuracy_nearest : say.AccuracyNearest
accuracy_nearest = units.accuracy_nearest

pub editions_differ : say.EditionsDiffer
editions_differ = units.millimetres_editions

pub accuracies_differ : say.AccuraciesDiffer
accuracies_differ = units.accuracy_editions

-- -- Values at the edges

pub edges_hold : say.EdgesHold
unfolding edges form_of profile_of to_little from_little digit ◌>>=◌ judge marker free frees count_ok fits possible fresh type_ok
    type_passes
    type_reason length_ok see magic payload last records counted packet mm_wave total_legal per_object payload_rule once_bit once_mark
    sirad body number row run characters millimetres coordinate accuracy_millimetres ties_of decibels centidegrees significand scale nearest
edges_hold = refl

pub vital_edges_hold : say.VitalEdgesHold
unfolding vital_edges form_of profile_of to_little from_little ◌>>=◌ judge marker free frees count_ok fits possible fresh type_ok
    type_passes
    type_reason length_ok see magic payload last records counted packet mm_wave total_legal per_object payload_rule once_bit once_mark
    vital_signs vital_total vital_rule
vital_edges_hold = refl

pub once_grid_holds : say.OnceGridHolds
unfolding once_grid pairs_of form_of profile_of to_little from_little ◌>>=◌ judge marker free frees count_ok fits possible fresh type_ok
    type_passes
    type_reason length_ok see magic payload last records counted packet mm_wave total_legal per_object payload_rule once_bit once_mark
once_grid_holds = refl

pub once_edges_hold : say.OnceEdgesHold
unfolding once_edges form_of profile_of to_little from_little ◌>>=◌ judge marker free frees count_ok fits possible fresh type_ok type_passes
    type_reason length_ok see magic payload last records counted packet mm_wave total_legal per_object payload_rule once_bit once_mark
    vital_signs vital_total vital_rule
once_edges_hold = refl

pub block_edges_hold : say.BlockEdgesHold
unfolding block_edges form_of ◌>>=◌ judge sirad body row run lay block blocks
block_edges_hold = refl
