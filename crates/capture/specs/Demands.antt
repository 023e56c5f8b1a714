-- The front door: what is proved of captures and of millimetres, in the words of the demands and of the papers.
-- Each definition below is a proposition under its words; its proof has the same name in small letters, in proofs/Demands.antt.
-- `judge_at` promises that its answer is `verdict`, the readings that theirs are `read_answer` and that they leave `read_leaves` in the
-- table, the choice of lines that its part is `part_of` (and, `RefersTo`, that the reference is to that part), the feeder what `Feeds`
-- says,
-- the number rules that their answers are `millimetres` and `accuracy_millimetres`: so what is said of these is said of the answers.
-- Lists hold any numbers; `Bytes` says that each is below 256 where a theorem needs it.
use Rattle.std.specs.Prelude.{Bool, true, false, ◌≡◌, List, [], ◌∷◌, ◌++◌, map, ◌↔◌, ◌⊎◌, ℕ, suc, ◌+◌, ◌*◌, ◌%◌, ◌^◌, ◌<◌, ◌≤◌, ℤ}
use Rattle.std.specs.Prelude.{pos, length, drop, Ok}
use Rattle.digits.specs.Bytes.{Bytes}
use Rattle.digits.specs.LittleEndian.{little_at}
use Rattle.form.specs.Form.{Frame, Stands, Completable}
use Rattle.form.specs.declared.Judgement.{Judgement}
use Rattle.form.specs.declared.Judgement.TheVariants.{Whole, Bad, Waiting}
use Rattle.reading.specs.Answers.{answered, room_in}
use Rattle.reading.specs.Begins.{Begins}
use Rattle.reading.specs.Course.{Halts, SkippedAt, Counted}
use Rattle.reading.specs.Leftmost.{Standing, NoneStands, Leftmost}
use Rattle.reading.specs.Resuming.{joined, shifted}
use Rattle.reading.specs.Reading.{Reading, reading, flat, row_width, lengths, state_full, state_end}
use Rattle.reading.specs.declared.Row.{Row}
use Rattle.sirad.specs.Sirad.{sirad}
use Rattle.sirad.specs.Table.{TableFrame, BlockFrame, BrokenBlock}
use Rattle.mmwave.specs.declared.PacketDialect.{PacketDialect}
use Rattle.mmwave.specs.declared.PacketDialect.TheVariants.{VitalSigns}
use Rattle.mmwave.specs.Packet.{packet}
use Rattle.mmwave.specs.Paper.{vital_says, Packet, RepeatRefused, EndsInField}
use Rattle.mmwave.specs.Dialects.{profile_of, sentences_of}
use Rattle.units.specs.Float.{negative, exponent, magnitude}
use Rattle.units.specs.Rounding.{signed, Half, Rounds}
use Rattle.units.specs.Units.{value, Edition, ties_of, accuracy_millimetres, RoundsMillimetres, HalfMillimetre, millimetres}
use Rattle.capture.specs.Dialects.{dialect_of, form_of, judge_of, longest_of}
use Rattle.capture.specs.Edges.{Line, result_of, edges, vital_edges, block_edges, once_grid, once_edges}
use Rattle.capture.specs.Entries.{max_bytes, verdict, verdict_numbers, read_answer, read_leaves}
use Rattle.capture.specs.Feeding.{call_reading, rest_of, accepted, feed_answer, Feeds}
use Rattle.capture.specs.Lines.{row_part, empty_part, part_of}
use Rattle.capture.specs.Runs.{Run, AsOne}
use Rattle.std.specs.declared.option.Option.{Option}
use Rattle.std.specs.declared.option.Option.TheVariants.{Some}
use Rattle.refusals.specs.declared.Refusal.{Refusal}
use Rattle.capture.specs.declared.Dialect.{Dialect}
use Rattle.capture.specs.declared.Dialect.TheVariants.{Sirad, Packets}
use Rattle.capture.specs.declared.Fed.{Fed}
use Rattle.capture.specs.declared.Stream.{Stream}
use Rattle.std.specs.declared.result.Result.{Result}
use Rattle.std.specs.declared.result.Result.TheVariants.{Ok}

-- -- Words

-- a frame of this kind and length "stands" at an offset (paper 01, "Judging a place")
abbrev pub StandsIn : Dialect → List ℕ → Standing
StandsIn d bs at kind size = Stands (form_of d) kind size (drop at bs)

-- what the judgement says at an offset
abbrev pub judged_at : Dialect → List ℕ → ℕ → Result Judgement Refusal
judged_at d bs at = verdict (Some d) bs at

-- the open reading, with room for so many rows
abbrev pub open_of : Dialect → ℕ → List ℕ → Reading
open_of d room bs = reading (judge_of d) false room bs

-- the closed reading, with room for so many rows
abbrev pub closed_of : Dialect → ℕ → List ℕ → Reading
closed_of d room bs = reading (judge_of d) true room bs

-- the bytes "end inside" a four-byte field, of which SiRad has none (paper 01, "Judging a place")
abbrev pub EndsInsideField : Dialect → List ℕ → Type 0
EndsInsideField Sirad bs = ⊥
EndsInsideField (Packets d) bs = EndsInField (sentences_of d) bs

-- -- Demand 1: bad input is answered with a number, and a refusal changes nothing

-- the judgement refuses nothing but a dialect other than 0, 1 and 2, more than 1,048,576 bytes, and an offset beyond the length
abbrev pub JudgementRefusesOnly : Type 0
JudgementRefusesOnly =
    (number : ℕ) (bs : List ℕ) (at : ℕ)
    → ((verdict_numbers (verdict (dialect_of number) bs at)).refusal ≡ 0) ↔ ((number < 3) × (length bs ≤ max_bytes) × (at ≤ length bs))

-- a reading refuses nothing but a dialect other than 0, 1 and 2 and more than 1,048,576 bytes
abbrev pub ReadingRefusesOnly : Type 0
ReadingRefusesOnly =
    (number : ℕ) (closed : Bool) (bs : List ℕ) (room : ℕ)
    → ((read_answer (dialect_of number) closed bs room).refusal ≡ 0) ↔ ((number < 3) × (length bs ≤ max_bytes))

-- a coordinate refuses nothing but an edition other than 1 and 2, what is infinite or no number, and a magnitude over 1000 m
abbrev pub MillimetresRefuseOnly : Type 0
MillimetresRefuseOnly =
    (edition bits : ℕ)
    → ((millimetres edition bits).refusal ≡ 0) ↔ (Edition edition × (exponent bits ≡ 255 → ⊥) × (magnitude bits ≤ 1000 * 2 ^ 150))

-- and an edition other than 1 and 2 whatever the float is: 32 comes before 30 and 31 (paper 02, (iv))
abbrev pub NoEditionFirst : Type 0
NoEditionFirst = (edition bits : ℕ) → ((millimetres edition bits).refusal ≡ 32) ↔ (Edition edition → ⊥)

-- a refusal changes no number of the table
abbrev pub RefusalChangesNothing : Type 0
RefusalChangesNothing =
    (asked : Option Dialect) (closed : Bool) (bs table : List ℕ) → ((read_answer asked closed bs (room_in table)).refusal ≡ 0 → ⊥)
    → read_leaves asked closed bs table ≡ table

-- -- Demand 2: it reads exactly what the documents define

-- the SiRad frames are those of paper 01's table
abbrev pub SiradFrames : Type 0
SiradFrames = (kind : ℕ) (bs : List ℕ) → Frame sirad kind bs ↔ TableFrame kind bs

-- the T frames are those of which each block is a target by its classes, or fourteen bytes of value 0 (paper 02, (ii))
abbrev pub TargetFrames : Type 0
TargetFrames = (bs : List ℕ) → Frame sirad 4 bs ↔ BlockFrame bs

-- bytes are judged bad with 17 exactly if the first byte of a T block commits it to the value 0 and a later byte of it breaks it, all
-- before it being fine (paper 02, (ii))
abbrev pub BrokenBlocks : Type 0
BrokenBlocks = (bs : List ℕ) → (judge_of Sirad bs ≡ Bad 17) ↔ ((q : ℕ) × (j : ℕ) × BrokenBlock bs q j)

-- the frames of a packet dialect are the packets of the papers' sentences on it, with its kind
abbrev pub PacketFrames : Type 0
PacketFrames =
    (d : PacketDialect) (kind : ℕ) (bs : List ℕ)
    → Frame (packet (profile_of d)) kind bs ↔ ((kind ≡ (sentences_of d).kind) × Packet (sentences_of d) bs)

-- "So L must be a multiple of 4 and not 44, and K is 0 exactly if L is 40" (paper 02, (i)): of every vital-signs packet
abbrev pub VitalLengths : Type 0
VitalLengths =
    (bs : List ℕ) → Packet vital_says bs
    → (length bs % 4 ≡ 0) × (length bs ≡ 44 → ⊥) × ((little_at 4 32 bs ≡ 0) ↔ (length bs ≡ 40))

-- 25, "seen at the type field" (paper 02, (vii)): exactly where the type is there, every check before it holds and a record before it
-- excludes it
abbrev pub RepeatedTypes : Type 0
RepeatedTypes = (d : PacketDialect) (bs : List ℕ) → (judge_of (Packets d) bs ≡ Bad 25) ↔ RepeatRefused (sentences_of d) bs

-- in vital signs none does: types may repeat (paper 02, (vii): "in dialect 1")
abbrev pub VitalRepeats : Type 0
VitalRepeats = (bs : List ℕ) → judge_of (Packets VitalSigns) bs ≡ Bad 25 → ⊥

-- a place is judged whole exactly when a frame stands there, with that frame's kind and length
abbrev pub WholeExactlyIfStands : Type 0
WholeExactlyIfStands =
    (d : Dialect) (bs : List ℕ) → length bs ≤ max_bytes → (at : ℕ) → at ≤ length bs → (kind size : ℕ)
    → (judged_at d bs at ≡ Ok (Whole kind size)) ↔ StandsIn d bs at kind size

-- at most one frame stands at a place
abbrev pub OneStands : Type 0
OneStands = (d : Dialect) (bs : List ℕ) (at k₁ n₁ k₂ n₂ : ℕ) → StandsIn d bs at k₁ n₁ → StandsIn d bs at k₂ n₂ → (k₁ ≡ k₂) × (n₁ ≡ n₂)

-- every capture has one leftmost reading
abbrev pub OneLeftmost : Type 0
OneLeftmost =
    (d : Dialect) (bs : List ℕ)
    → (ws : List Row) × Leftmost (StandsIn d bs) 0 ws × ((vs : List Row) → Leftmost (StandsIn d bs) 0 vs → vs ≡ ws)

-- with room in its table, the closed reading gives every frame that the leftmost reading holds, and comes to the end
abbrev pub ClosedIsLeftmost : Type 0
ClosedIsLeftmost =
    (d : Dialect) (bs : List ℕ) (room : ℕ) (ws : List Row) → Leftmost (StandsIn d bs) 0 ws → length ws ≤ room
    → ((closed_of d room bs).rows ≡ ws) × ((closed_of d room bs).state ≡ state_end)

-- "Millimetres are the nearest whole number to the exact value, by the edition named" (demand 2 as paper 02, (iv), has it): of all whole
-- numbers, a coordinate's answer that is no refusal is the one nearest to 1000 times the exact value and, at an exact half, the one that
-- the edition takes
abbrev pub MillimetresNearest : Type 0
MillimetresNearest =
    (edition bits : ℕ) → (millimetres edition bits).refusal ≡ 0 → (z : ℤ)
    → ((millimetres edition bits).value ≡ z) ↔ RoundsMillimetres (ties_of edition) bits z

-- so is an accuracy's, of its tenths
abbrev pub AccuracyNearest : Type 0
AccuracyNearest =
    (edition tenths m : ℕ) → accuracy_millimetres edition tenths ≡ Ok m → (z : ℤ)
    → (pos m ≡ z) ↔ Rounds (ties_of edition) false tenths 10 z

-- "they differ only at exact halves" (paper 02, (iv)), and there by one: edition 1 is further from zero
abbrev pub EditionsDiffer : Type 0
EditionsDiffer =
    (bits : ℕ)
    → (millimetres 2 bits ≡ millimetres 1 bits)
    ⊎ (HalfMillimetre bits
    × ((m : ℕ) × (millimetres 2 bits ≡ value (signed (negative bits) m)) × (millimetres 1 bits ≡ value (signed (negative bits) (suc m)))))

-- the same of an accuracy
abbrev pub AccuraciesDiffer : Type 0
AccuraciesDiffer =
    (tenths : ℕ)
    → (accuracy_millimetres 2 tenths ≡ accuracy_millimetres 1 tenths)
    ⊎ (Half tenths 10 × ((m : ℕ) × (accuracy_millimetres 2 tenths ≡ Ok m) × (accuracy_millimetres 1 tenths ≡ Ok (suc m))))

-- with any room, the closed reading says "none", no row with state 2, exactly if no frame stands anywhere
abbrev pub NoneExactlyIfNoneStands : Type 0
NoneExactlyIfNoneStands =
    (d : Dialect) (bs : List ℕ) (room : ℕ)
    → (((closed_of d room bs).rows ≡ []) × ((closed_of d room bs).state ≡ state_end)) ↔ NoneStands (StandsIn d bs)

-- -- What an answer says (paper 01, "Two readings")

-- the answer counts the reading's rows, and the table at exit is these rows with the numbers behind them as they were
abbrev pub AnswersTheReading : Type 0
AnswersTheReading =
    (d : Dialect) (closed : Bool) (bs table : List ℕ) → length bs ≤ max_bytes
    → (let r = reading (judge_of d) closed (room_in table) bs in
    (read_answer (Some d) closed bs (room_in table) ≡ answered r)
    × (read_leaves (Some d) closed bs table ≡ flat r.rows ++ drop (row_width * length r.rows) table))

-- no more rows than there is room for
abbrev pub RowsFit : Type 0
RowsFit = (d : Dialect) (closed : Bool) (bs : List ℕ) (room : ℕ) → length (reading (judge_of d) closed room bs).rows ≤ room

-- row lengths plus skipped bytes equal the next place
abbrev pub LengthsAndSkipsAreNext : Type 0
LengthsAndSkipsAreNext =
    (d : Dialect) (closed : Bool) (bs : List ℕ) (room : ℕ)
    → (let r = reading (judge_of d) closed room bs in lengths r.rows + r.skipped ≡ r.next)

-- the skip count is the number of places that the reading comes to and judges bad and, in the closed reading, of those judged waiting
-- before the end
abbrev pub SkipsCounted : Type 0
SkipsCounted =
    (d : Dialect) (closed : Bool) (bs : List ℕ) (room : ℕ)
    → Counted (SkippedAt (judge_of d) closed bs 0 room) (reading (judge_of d) closed room bs).skipped

-- the next place and the state are those at which the reading stops: the open one at a waiting place with state 0, the closed one at
-- the end with state 2, either at a whole frame with no row left with state 1
abbrev pub StopsExactly : Type 0
StopsExactly =
    (d : Dialect) (closed : Bool) (bs : List ℕ) (room at state : ℕ)
    → (let r = reading (judge_of d) closed room bs in ((r.next ≡ at) × (r.state ≡ state)) ↔ Halts (judge_of d) closed bs room at state)

-- the open rows are the first of the closed rows on the same bytes
abbrev pub OpenRowsBeginClosedRows : Type 0
OpenRowsBeginClosedRows = (d : Dialect) (bs : List ℕ) (room : ℕ) → Begins (open_of d room bs).rows (closed_of d room bs).rows

-- on SiRad they are the same: behind a waiting place no frame starts
abbrev pub SiradOpenIsClosed : Type 0
SiradOpenIsClosed = (bs : List ℕ) (room : ℕ) → (open_of Sirad room bs).rows ≡ (closed_of Sirad room bs).rows

-- -- Demand 3: more bytes never change an answer already given

-- the open reading of A followed by B begins with exactly the rows of A
abbrev pub OpenBegins : Type 0
OpenBegins =
    (d : Dialect) (A B : List ℕ) → length (A ++ B) ≤ max_bytes → (room : ℕ)
    → Begins (open_of d room A).rows (open_of d room (A ++ B)).rows

-- if A's reading ended with a full table (state 1), the two answers are equal throughout, and so are the tables
abbrev pub FullIsFinal : Type 0
FullIsFinal =
    (d : Dialect) (A B : List ℕ) → length (A ++ B) ≤ max_bytes → (table : List ℕ)
    → (read_answer (Some d) false A (room_in table)).state ≡ state_full
    → (read_answer (Some d) false A (room_in table) ≡ read_answer (Some d) false (A ++ B) (room_in table))
    × (read_leaves (Some d) false A table ≡ read_leaves (Some d) false (A ++ B) table)

-- the reading goes on where it stopped: the open reading of A followed by B, with more rows, is that of A and then the open reading of
-- all bytes from A's next place on, its places shifted; whether A's reading stopped to wait or at a full table
abbrev pub OpenResumes : Type 0
OpenResumes =
    (d : Dialect) (A B : List ℕ) → length (A ++ B) ≤ max_bytes → (room more : ℕ)
    → (let r = open_of d room A in
    open_of d (length r.rows + more) (A ++ B) ≡ joined r (shifted r.next (open_of d more (drop r.next (A ++ B)))))

-- a closed reading that stopped at a full table goes on in the same way, on the same bytes
abbrev pub ClosedResumes : Type 0
ClosedResumes =
    (d : Dialect) (bs : List ℕ) (room more : ℕ)
    → (let r = closed_of d room bs in
    closed_of d (length r.rows + more) bs ≡ joined r (shifted r.next (closed_of d more (drop r.next bs))))

-- each place that is judged whole or bad in A is judged alike in A followed by B, with the same kind and length or the same reason
abbrev pub JudgedAlike : Type 0
JudgedAlike =
    (d : Dialect) (A B : List ℕ) → length (A ++ B) ≤ max_bytes → (at : ℕ) → at ≤ length A
    → ((kind size : ℕ) → judged_at d A at ≡ Ok (Whole kind size) → judged_at d (A ++ B) at ≡ Ok (Whole kind size))
    × ((reason : ℕ) → judged_at d A at ≡ Ok (Bad reason) → judged_at d (A ++ B) at ≡ Ok (Bad reason))

-- at every place of A, the end included, the reader waits exactly when no frame stands there yet and some further bytes would complete
-- one; for packets, at each place from which A doesn't end inside a four-byte field
abbrev pub WaitsExactly : Type 0
WaitsExactly =
    (d : Dialect) (A : List ℕ) → Bytes A → length A ≤ max_bytes → (at : ℕ) → at ≤ length A → (EndsInsideField d (drop at A) → ⊥)
    → (judged_at d A at ≡ Ok Waiting) ↔ Completable (form_of d) (drop at A)

-- where A ends inside a four-byte field the judgement is waiting
abbrev pub InsideWaits : Type 0
InsideWaits =
    (d : Dialect) (A : List ℕ) → length A ≤ max_bytes → (at : ℕ) → at ≤ length A → EndsInsideField d (drop at A)
    → judged_at d A at ≡ Ok Waiting

-- the place at the very end is waiting
abbrev pub EndWaits : Type 0
EndWaits = (d : Dialect) (A : List ℕ) → length A ≤ max_bytes → judged_at d A (length A) ≡ Ok Waiting

-- -- Two lines (paper 01, "Two lines")

-- the first frame of the main line's leftmost reading; where it has none, that of the standby line; else an empty part of the main line
pub record ChoosesFirst (d : Dialect) (main standby : List ℕ) : Type 0 where
  pub from_main : (w : Row) (ws : List Row) → Leftmost (StandsIn d main) 0 (w ∷ ws) → part_of (Some d) main standby ≡ row_part false w
  pub from_standby : (w : Row) (ws : List Row) → NoneStands (StandsIn d main) → Leftmost (StandsIn d standby) 0 (w ∷ ws)
      → part_of (Some d) main standby ≡ row_part true w
  pub from_neither : NoneStands (StandsIn d main) → NoneStands (StandsIn d standby) → part_of (Some d) main standby ≡ empty_part

-- that of two lines within the size limit
abbrev pub TwoLines : Type 0
TwoLines = (d : Dialect) (main standby : List ℕ) → length main ≤ max_bytes → length standby ≤ max_bytes → ChoosesFirst d main standby

-- the part is empty for a dialect or a line, either one, that 1 or 3 refuses
abbrev pub RefusedLineIsEmpty : Type 0
RefusedLineIsEmpty =
    (number : ℕ) (main standby : List ℕ) (closed : Bool) (room : ℕ)
    → (((read_answer (dialect_of number) closed main room).refusal ≡ 0)
    × ((read_answer (dialect_of number) closed standby room).refusal ≡ 0)
    → ⊥) → part_of (dialect_of number) main standby ≡ empty_part

-- -- Bytes as the port gives them (paper 02, (iii))
-- `feed` promises `Feeds`: its answer is `feed_answer`, and it leaves `feed_keeps` in the carry buffer and `feed_leaves` in the table.

-- however a stream was cut into calls, its accepted calls' rows, joined, are the rows of the open reading of their new bytes at once with
-- room for them; the state's place and waiting bytes are that reading's next place and rest
abbrev pub FeedsAsOne : Type 0
FeedsAsOne =
    (number : ℕ) (d : Dialect) → dialect_of number ≡ Some d → (s : Stream) (carry bs numbers : List ℕ) → Run number s carry bs numbers
    → AsOne d s carry bs numbers

-- an accepted call answers how many rows it wrote and where the stream stands; the table at exit is these rows and the carry the waiting
-- bytes, each with what was behind them as it was
abbrev pub FeedAnswersTheReading : Type 0
FeedAnswersTheReading =
    (number : ℕ) (d : Dialect) → dialect_of number ≡ Some d
    → (s : Stream) (carry bytes table : List ℕ) (r : Fed) (carry' table' : List ℕ) → Feeds number s carry bytes table r carry' table'
    → r.refusal ≡ 0
    → (let ws = (call_reading d s carry bytes).rows in
    let rest = rest_of d s carry bytes in
    (r ≡ accepted d s carry bytes) × (carry' ≡ rest ++ drop (length rest) carry)
    × (table' ≡ flat ws ++ drop (row_width * length ws) table))

-- a refusal returns the state as it was handed in, and changes neither the carry buffer nor the table
abbrev pub FeedRefusalChangesNothing : Type 0
FeedRefusalChangesNothing =
    (number : ℕ) (s : Stream) (carry bytes table : List ℕ) (r : Fed) (carry' table' : List ℕ)
    → Feeds number s carry bytes table r carry' table' → (r.refusal ≡ 0 → ⊥)
    → (r.stream ≡ s) × (r.rows ≡ 0) × (carry' ≡ carry) × (table' ≡ table)

-- refusal 1 exactly for a dialect other than 0, 1 and 2
abbrev pub FeedRefusesDialects : Type 0
FeedRefusesDialects =
    (number : ℕ) (s : Stream) (carry bytes : List ℕ) (room : ℕ)
    → ((feed_answer (dialect_of number) s carry bytes room).refusal ≡ 1) ↔ (3 ≤ number)

-- then each refusal exactly if none before it applies and its own words do: 62 if the state counts more waiting bytes than the carry buffer
-- holds, 3 if place, waiting and new bytes together exceed 1,048,576, 61 if the call's frames exceed the row table, 60 if the bytes left
-- waiting exceed the carry buffer
pub record RefusedExactly (d : Dialect) (s : Stream) (carry bytes : List ℕ) (room number : ℕ) : Type 0 where
  pub by_state : (number ≡ 62) ↔ (length carry < s.waiting)
  pub by_size : (number ≡ 3) ↔ ((s.waiting ≤ length carry) × (max_bytes < s.offset + s.waiting + length bytes))
  pub by_rows : (number ≡ 61) ↔ ((s.waiting ≤ length carry) × (s.offset + s.waiting + length bytes ≤ max_bytes)
      × (room < length (call_reading d s carry bytes).rows))
  pub by_rest : (number ≡ 60) ↔ ((s.waiting ≤ length carry) × (s.offset + s.waiting + length bytes ≤ max_bytes)
      × (length (call_reading d s carry bytes).rows ≤ room) × (length carry < length (rest_of d s carry bytes)))
  pub by_none : (number ≡ 0) ↔ ((s.waiting ≤ length carry) × (s.offset + s.waiting + length bytes ≤ max_bytes)
      × (length (call_reading d s carry bytes).rows ≤ room) × (length (rest_of d s carry bytes) ≤ length carry))

-- that of every call
abbrev pub FeedRefusesExactly : Type 0
FeedRefusesExactly =
    (d : Dialect) (s : Stream) (carry bytes : List ℕ) (room : ℕ)
    → RefusedExactly d s carry bytes room (feed_answer (Some d) s carry bytes room).refusal

-- fewer bytes are left waiting than the longest frame has, so a carry buffer of 65,550 bytes (for packets 32,767) is never too short
abbrev pub CarryEnough : Type 0
CarryEnough = (d : Dialect) (s : Stream) (carry bytes : List ℕ) → length (rest_of d s carry bytes) < longest_of d

-- -- Values at the edges (paper 01; paper 02, (i), (ii) and (iv))

-- the rules answer as the lines say
abbrev pub Hold : List Line → Type 0
Hold lines = map (λ (l : Line). result_of l.question) lines ≡ map (λ (l : Line). l.result) lines

-- every starred line of the table holds
abbrev pub EdgesHold : Type 0
EdgesHold = Hold edges

-- so does every line on paper 02's numbers for vital signs
abbrev pub VitalEdgesHold : Type 0
VitalEdgesHold = Hold vital_edges

-- and for empty blocks
abbrev pub BlockEdgesHold : Type 0
BlockEdgesHold = Hold block_edges

-- and for each pair of known types
abbrev pub OnceGridHolds : Type 0
OnceGridHolds = Hold once_grid

-- and for the other numbers of each kind of record once
abbrev pub OnceEdgesHold : Type 0
OnceEdgesHold = Hold once_edges
