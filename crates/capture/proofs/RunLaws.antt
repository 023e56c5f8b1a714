-- A stream fed call by call: what an accepted and a refused call say, and what a run keeps.
use mathlib.Core.Path.{◌≡◌, refl, sym, ap, ◌∙◌}
use mathlib.Core.List.{List, [], ◌∷◌, ◌++◌}
use Prim.Native.Nat.{ℕ, ◌+◌, ◌-◌, ◌*◌, ◌≤◌}
use native.Mathlib.Nat.{sub-zero}
use native.Mathlib.Omega.{arith}
use native.Mathlib.Decide.{ℕ_discrete}
use borrow.Author.Tests.{eq-eqb, ne_eqb}
use lib.ListN.{length, take, drop}
use lib.Seq.{drop-drop, drop-append-le}
use Rattle.digits.specs.Stores.{stored}
use Rattle.form.specs.declared.Judgement.TheVariants.{Waiting}
use Rattle.reading.specs.Answers.{room_in}
use Rattle.reading.specs.Reading.{read, flat, row_width}
use Rattle.reading.specs.Resuming.{open_from, joined}
use Rattle.reading.specs.declared.Row.{Row}
use Rattle.reading.proofs.Open.{open_wait, stopped, resume}
use Rattle.reading.proofs.Rows.{length_flat}
use Rattle.capture.specs.Dialects.{dialect_of, judge_of}
use Rattle.capture.specs.Feeding.{in_call, call_reading, rest_of, feed_refusal, accepted}
use Rattle.capture.specs.Feeding.{feed_answer, feed_keeps, feed_leaves, FeedsBy}
use Rattle.capture.specs.Runs.{fresh, Run, start, call, refusal, moved, again}
use Rattle.std.specs.declared.option.Option.{Option}
use Rattle.std.specs.declared.option.Option.TheVariants.{Some, None}
use Rattle.capture.specs.declared.Dialect.{Dialect}
use Rattle.capture.specs.declared.Fed.{Fed}
use Rattle.capture.specs.declared.Stream.{Stream}
use Rattle.capture.proofs.CarryLaws.{first_stored}
use Rattle.capture.proofs.FeedLaws.{Fits, exactly_0}
use Rattle.capture.proofs.Wires.{lawful_of}

-- -- One call

-- the number of an answer is the refusal
pub answer_number : (d : Dialect) (s : Stream) (carry bytes : List ℕ) (room : ℕ)
    → (feed_answer (Some d) s carry bytes room).refusal ≡ feed_refusal d s carry bytes room
unfolding feed_answer
answer_number d s carry bytes room = go (ℕ_discrete (feed_refusal d s carry bytes room) 0)
  where
    go : Dec (feed_refusal d s carry bytes room ≡ 0) → (feed_answer (Some d) s carry bytes room).refusal
        ≡ feed_refusal d s carry bytes room
    go (yes e) = rw (eq-eqb (feed_refusal d s carry bytes room) 0 e) (sym e)
    go (no e) = rw (ne_eqb (feed_refusal d s carry bytes room) 0 e)

module _ (d : Dialect) (s : Stream) (carry bytes table : List ℕ) (r : Fed) (carry' table' : List ℕ)
    (f : FeedsBy (Some d) s carry bytes table r carry' table') where
  -- an accepted call
  pub record Accepted : Type 0 where
    pub fits : Fits d s carry bytes (room_in table)
    pub answer : r ≡ accepted d s carry bytes
    pub kept : carry' ≡ stored carry 0 (rest_of d s carry bytes)
    pub laid : table' ≡ stored table 0 (flat (call_reading d s carry bytes).rows)

  pub accepted_call : r.refusal ≡ 0 → Accepted
  unfolding feed_answer feed_keeps feed_leaves
  accepted_call z =
      let n = sym (answer_number d s carry bytes (room_in table)) ∙ sym (ap (λ (a : Fed). a.refusal) f.answers) ∙ z in
      let q = eq-eqb (feed_refusal d s carry bytes (room_in table)) 0 n in
      record {
        fits = (exactly_0 d s carry bytes (room_in table)).0 n;
        answer = rw q at f.answers;
        kept = rw q at f.keeps;
        laid = rw q at f.leaves;
      }

-- a refused call changes nothing
abbrev pub Unchanged : Stream → List ℕ → List ℕ → Fed → List ℕ → List ℕ → Type 0
Unchanged s carry table r carry' table' = (r.stream ≡ s) × (r.rows ≡ 0) × (carry' ≡ carry) × (table' ≡ table)

unchanged_known : (d : Dialect) (s : Stream) (carry bytes table : List ℕ) (r : Fed) (carry' table' : List ℕ)
    → FeedsBy (Some d) s carry bytes table r carry' table' → (r.refusal ≡ 0 → ⊥) → Unchanged s carry table r carry' table'
unfolding feed_answer feed_keeps feed_leaves
unchanged_known d s carry bytes table r carry' table' f z =
    let n = ap (λ (a : Fed). a.refusal) f.answers ∙ answer_number d s carry bytes (room_in table) in
    let q = ne_eqb (feed_refusal d s carry bytes (room_in table)) 0 (λ e. z (n ∙ e)) in
    let a = rw q at f.answers in
    (ap (λ (a : Fed). a.stream) a, ap (λ (a : Fed). a.rows) a, rw q at f.keeps, rw q at f.leaves)

pub unchanged : (asked : Option Dialect) (s : Stream) (carry bytes table : List ℕ) (r : Fed) (carry' table' : List ℕ)
    → FeedsBy asked s carry bytes table r carry' table' → (r.refusal ≡ 0 → ⊥) → Unchanged s carry table r carry' table'
unfolding feed_answer feed_keeps feed_leaves
unchanged None s carry bytes table r carry' table' f z =
    (ap (λ (a : Fed). a.stream) f.answers, ap (λ (a : Fed). a.rows) f.answers, f.keeps, f.leaves)
unchanged (Some d) s carry bytes table r carry' table' f z = unchanged_known d s carry bytes table r carry' table' f z

-- -- The run

-- what a run keeps
pub record Going (d : Dialect) (s : Stream) (carry bs numbers : List ℕ) : Type 0 where
  pub rows : numbers ≡ flat (open_from (judge_of d) 0 bs).rows
  pub offset : s.offset ≡ (open_from (judge_of d) 0 bs).next
  pub waiting : s.waiting ≡ length (drop s.offset bs)
  pub carried : take s.waiting carry ≡ drop s.offset bs

-- rows one behind the other
flat_append : (vs ws : List Row) → flat (vs ++ ws) ≡ flat vs ++ flat ws
unfolding flat
flat_append [] ws = refl
flat_append (v ∷ vs) ws = rw (flat_append vs ws)

going_start : (d : Dialect) (carry : List ℕ) → Going d (fresh 0) carry [] []
unfolding open_from read flat
going_start d carry = record { rows = refl; offset = refl; waiting = refl; carried = refl }

module _ (d : Dialect) (s : Stream) (carry bs numbers : List ℕ) (g : Going d s carry bs numbers) where
  within : s.offset ≤ length bs
  within = let x = (stopped (judge_of d) (lawful_of d) 0 bs).within in let e = g.offset in omega arith

  -- the bytes that are carried wait
  carried_waits : judge_of d (take s.waiting carry) ≡ Waiting
  carried_waits =
      let w = (stopped (judge_of d) (lawful_of d) 0 bs).waits in
      rw (g.carried, g.offset) (rw sub-zero at w)

  -- a stream that begins with them
  going_again : Going d (fresh s.waiting) carry (take s.waiting carry) []
  unfolding flat
  going_again =
      let o = open_wait (judge_of d) (lawful_of d) 0 (take s.waiting carry) carried_waits in
      record {
        rows = rw o;
        offset = rw o;
        waiting = g.waiting ∙ ap length (sym g.carried);
        carried = refl;
      }

  module _ (bytes : List ℕ) where
    behind : drop s.offset (bs ++ bytes) ≡ in_call s carry bytes
    unfolding in_call
    behind = rw (drop-append-le s.offset bs bytes within, g.carried)

    -- the reading of all bytes so far goes on as the call's
    whole : open_from (judge_of d) 0 (bs ++ bytes) ≡ joined (open_from (judge_of d) 0 bs) (call_reading d s carry bytes)
    unfolding call_reading
    whole =
        let r = resume (judge_of d) (lawful_of d) 0 bs bytes in
        let z : s.offset - 0 ≡ s.offset = omega arith in
        rw (← g.offset, z, behind) at r

    next_from : s.offset ≤ (call_reading d s carry bytes).next
    unfolding call_reading
    next_from = (stopped (judge_of d) (lawful_of d) s.offset (in_call s carry bytes)).from

    rest_is : rest_of d s carry bytes ≡ drop (call_reading d s carry bytes).next (bs ++ bytes)
    unfolding rest_of
    rest_is =
        let n = next_from in
        let q : s.offset + ((call_reading d s carry bytes).next - s.offset) ≡ (call_reading d s carry bytes).next = omega arith in
        rw (← behind, drop-drop ((call_reading d s carry bytes).next - s.offset) s.offset (bs ++ bytes), q)

    going_call : (table : List ℕ) (r : Fed) (carry' table' : List ℕ) (f : FeedsBy (Some d) s carry bytes table r carry' table')
        → Accepted d s carry bytes table r carry' table' f
        → Going d r.stream carry' (bs ++ bytes) (numbers ++ take (row_width * r.rows) table')
    going_call table r carry' table' f a =
        let ws = (call_reading d s carry bytes).rows in
        let n = length_flat ws in
        let c = a.fits.rows in
        let h : length (flat ws) ≤ length table = omega arith in
        let q : row_width * length ws ≡ length (flat ws) = omega arith in
        rw a.answer (record {
          rows = rw (whole, flat_append (open_from (judge_of d) 0 bs).rows ws, ← g.rows, a.laid, q, first_stored table (flat ws) h);
          offset = rw whole;
          waiting = ap length rest_is;
          carried = rw (a.kept, first_stored carry (rest_of d s carry bytes) a.fits.rest) rest_is;
        })

pub going : (dialect : ℕ) (d : Dialect) → dialect_of dialect ≡ Some d → {s : Stream} {carry bs numbers : List ℕ}
    → Run dialect s carry bs numbers → Going d s carry bs numbers
going dialect d e (start {carry}) = going_start d carry
going dialect d e (call {s} {carry} {bs} {numbers} run bytes table r carry' table' f z) =
    let f' : FeedsBy (Some d) s carry bytes table r carry' table' = rw e at f in
    going_call d s carry bs numbers (going dialect d e run) bytes table r carry' table' f'
    (accepted_call d s carry bytes table r carry' table' f' z)
going dialect d e (refusal {s} {carry} {bs} {numbers} run other bytes table r carry' table' f z) =
    let h = unchanged (dialect_of other) s carry bytes table r carry' table' f z in
    rw (h.0, h.2) (going dialect d e run)
going dialect d e (moved {s} {carry} {bs} {numbers} run carry' same) =
    let g = going dialect d e run in
    record { rows = g.rows; offset = g.offset; waiting = g.waiting; carried = same ∙ g.carried }
going dialect d e (again {s} {carry} {bs} {numbers} run) = going_again d s carry bs numbers (going dialect d e run)
