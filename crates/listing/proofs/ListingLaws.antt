-- What is put for a table that the closed reading filled is the listing, and it fits.
use Rattle.std.proofs.Common.{◌≡◌, ℕ, ◌*◌, ◌<◌, ◌≤◌, true, cond, ltb, List, [], ◌∷◌, ◌++◌, length, drop, IsOk, sym, refl, ap, ◌∙◌, zero-add, arith, length-append, le-ltb, lt-ltb, le-leb}
use native.Mathlib.Decide.{dec_lt}
use Rattle.std.specs.declared.result.Result.{Result}
use Rattle.std.specs.declared.result.Result.TheVariants.{Ok, Err}
use Rattle.refusals.specs.declared.Refusal.{Refusal}
use Rattle.refusals.proofs.NumberLaws.{number_ne0}
use Rattle.digits.specs.Stores.{stored, stored_within, written_of, Writes}
use Rattle.digits.specs.declared.Written.{Written}
use Rattle.digits.proofs.StoreLaws.{length_stored, within_fits, short, done}
use Rattle.reading.specs.Answers.{answered, room_in}
use Rattle.reading.specs.Reading.{Reading, reading, flat, row_width}
use Rattle.reading.specs.declared.Answer.{Answer}
use Rattle.reading.specs.declared.Row.{Row}
use Rattle.reading.proofs.Rows.{numbers_behind_stay, lengths_and_skips_are_next, next_within}
use Rattle.capture.specs.Dialects.{dialect_number, judge_of, dialect_of}
use Rattle.capture.specs.Entries.{max_bytes, read_answer, read_leaves, Reads}
use Rattle.std.specs.declared.option.Option.TheVariants.{Some}
use Rattle.capture.specs.declared.Dialect.{Dialect}
use Rattle.capture.proofs.Wires.{lawful_of, number_names}
use Rattle.listing.specs.Lines.{header_line, row_line, row_lines, end_line, refused_line}
use Rattle.listing.specs.Listing.{closed_reading, listed, listing, max_input}
use Rattle.listing.specs.Internal.{Puts, table_lines, table_text, held_rows, text_room}
use Rattle.listing.proofs.PutLaws.{puts_length}
use Rattle.listing.proofs.LineLaws.{lines_of_rows, row_most, end_most, held_all}
use Rattle.listing.proofs.RoomLaws.{rows_in_bytes, room_enough}

-- the closed reading of a dialect, as an answer and a table
pub record Closed (d : Dialect) (bs : List ℕ) (a : Answer) (table : List ℕ) : Type 0 where
  pub answers : a ≡ answered (closed_reading d bs)
  pub behind : List ℕ
  pub lies : table ≡ flat (closed_reading d bs).rows ++ behind
  pub sized : 24576 ≡ length table

module _ (d : Dialect) (bs : List ℕ) (short : length bs ≤ max_input) where
  -- with a table of 8,192 rows the reading is whole
  pub closed_whole : (number : ℕ) (table after : List ℕ) (a : Answer) → number ≡ dialect_number d → 24576 ≡ length table
      → Reads number true bs table a after → Closed d bs a after
  unfolding read_answer read_leaves
  closed_whole number table after a n e r =
      let k : dialect_of number ≡ Some d = ap dialect_of n ∙ number_names d in
      let w : reading (judge_of d) true 8192 bs ≡ closed_reading d bs = room_enough d bs 8192 (omega arith) in
      let m : room_in table ≡ 8192 = rw (← e) in
      let x : a ≡ answered (reading (judge_of d) true 8192 bs) = rw (k, le-ltb max_bytes (length bs) (omega arith), m) at r.answers in
      let y : after ≡ stored table 0 (flat (reading (judge_of d) true 8192 bs).rows) =
      rw (k, le-ltb max_bytes (length bs) (omega arith), m) at r.leaves in
      let z = numbers_behind_stay (judge_of d) (lawful_of d) true bs table 8192 (omega arith) in
      record {
        answers = x ∙ ap answered w;
        behind = drop (row_width * length (reading (judge_of d) true 8192 bs).rows) table;
        lies = y ∙ z ∙ ap (λ (r : Reading). flat r.rows ++ drop (row_width * length (reading (judge_of d) true 8192 bs).rows) table) w;
        sized = e ∙ sym (ap length y ∙ length_stored table 0 (flat (reading (judge_of d) true 8192 bs).rows));
      }

  -- how many rows and skipped bytes there can be
  pub closed_few : (a : Answer) (table : List ℕ) → Closed d bs a table → (a.rows ≤ 8192) × (a.skipped ≤ 65536)
  unfolding closed_reading
  closed_few a table c =
      let x = rows_in_bytes d true (length bs) bs in
      let y = lengths_and_skips_are_next (judge_of d) (lawful_of d) true bs (length bs) in
      let z = next_within (judge_of d) (lawful_of d) true bs (length bs) in
      let p : a.rows ≡ length (reading (judge_of d) true (length bs) bs).rows = ap (λ (a : Answer). a.rows) c.answers in
      let q : a.skipped ≡ (reading (judge_of d) true (length bs) bs).skipped = ap (λ (a : Answer). a.skipped) c.answers in
      (omega arith, omega arith)

  -- the text of the table is the listing's
  pub text_listed : (a : Answer) (table : List ℕ) → Closed d bs a table → table_text a.rows table (length bs) a.skipped ≡ listed d bs
  unfolding listed table_text
  text_listed a table c =
      let n : a.rows ≡ length (closed_reading d bs).rows = ap (λ (a : Answer). a.rows) c.answers in
      let t : table_lines a.rows table ≡ row_lines (closed_reading d bs).rows =
      rw (c.lies, n) (lines_of_rows (closed_reading d bs).rows c.behind) in
      let s : a.skipped ≡ (closed_reading d bs).skipped = ap (λ (a : Answer). a.skipped) c.answers in
      rw (t, s)

  -- so what is written for the table is the listing
  pub writes_listed : (a : Answer) (table out : List ℕ) (r : Written) (after : List ℕ) → Closed d bs a table
      → Writes 0 (table_text (held_rows a.rows table) table (length bs) a.skipped) out r after → Writes 0 (listed d bs) out r after
  writes_listed a table out r after c w =
      let f = closed_few a table c in
      let s = c.sized in
      let h : a.rows ≡ held_rows a.rows table = held_all a.rows table f.0 (omega arith) in
      rw (← h, text_listed a table c) at w

rows_most : (ws : List Row) → length (row_lines ws) ≤ 24 * length ws
unfolding row_lines
rows_most [] = omega arith
rows_most (w ∷ ws) =
    let e = length-append (row_line w) (row_lines ws) in
    let a = row_most w in
    let b = rows_most ws in
    omega arith

-- every listing fits in the buffer for it
pub listed_most : (d : Dialect) (bs : List ℕ) → length bs ≤ max_input → length (listed d bs) ≤ text_room
unfolding listed header_line closed_reading
listed_most d bs h =
    let ws = (reading (judge_of d) true (length bs) bs).rows in
    let last = end_line (length bs) (reading (judge_of d) true (length bs) bs).skipped in
    let e = length-append header_line (row_lines ws ++ last) in
    let f = length-append (row_lines ws) last in
    let a = rows_most ws in
    let b = end_most (length bs) (reading (judge_of d) true (length bs) bs).skipped in
    let r = rows_in_bytes d true (length bs) bs in
    omega arith

-- every output fits in the buffer for it
pub listing_most : (d : Dialect) (bs : List ℕ) → length (listing d bs) ≤ text_room
unfolding listing refused_line
listing_most d bs = go (dec_lt max_input (length bs))
  where
    go : Dec (max_input < length bs) → length (cond (ltb max_input (length bs)) refused_line (listed d bs)) ≤ text_room
    go (yes h) = rw (lt-ltb max_input (length bs) h) (omega arith)
    go (no h) = rw (le-ltb max_input (length bs) (omega arith)) (listed_most d bs (omega arith))

-- -- The two outputs

module _ (d : Dialect) (bs out : List ℕ) (r : Written) (after : List ℕ) where
  -- too many bytes: only the refusal
  pub listing_long : max_input < length bs → Writes 0 refused_line out r after → Writes 0 (listing d bs) out r after
  unfolding listing
  listing_long h w = rw (lt-ltb max_input (length bs) h) w

  -- the lines of the closed reading
  pub listing_whole : length bs ≤ max_input → Writes 0 (listed d bs) out r after → Writes 0 (listing d bs) out r after
  unfolding listing
  listing_whole h w = rw (le-ltb max_input (length bs) h) w

-- a buffer that holds the text is written
pub writes_puts : {text out after : List ℕ} {r : Written} → Writes 0 text out r after → length text ≤ length out
    → Puts text out 0 r.size after
writes_puts {text} {out} {after} {r} w h = record {
  leaves = w.leaves ∙ rw (le-leb (length text) (length out) h);
  ends = ap (λ (a : Written). a.size) w.answers ∙ rw (le-leb (length text) (length out) h, zero-add);
}

-- and it is no refusal
pub writes_ok : {text out after : List ℕ} (r : Result ℕ Refusal) → Writes 0 text out (written_of r) after → length text ≤ length out
    → IsOk r
writes_ok (Ok n) w h = refl
writes_ok {text} {out} (Err e) w h =
    absurd (number_ne0 e (ap (λ (a : Written). a.refusal) w.answers ∙ rw (le-leb (length text) (length out) h) refl))

-- a listing that was put ends within the buffer for it
pub listing_ends : (d : Dialect) (bs : List ℕ) {out after : List ℕ} {end : ℕ} → Puts (listing d bs) out 0 end after → text_room ≡ length out
    → end ≤ length after
listing_ends d bs p h = omega (arith, p.ends, puts_length p, listing_most d bs)

-- -- A text that is put is written

-- a text that does not fit
pub writes_short : (text out : List ℕ) → length out < length text → Writes 0 text out (record { refusal = 51; size = 0 }) out
writes_short text out h = short 0 text out refl h

-- a text that fits
pub writes_done : {text out after : List ℕ} {end : ℕ} → Puts text out 0 end after → length text ≤ length out
    → Writes 0 text out (record { refusal = 0; size = end }) after
writes_done {text} {out} {after} {end} p h = done 0 text out after end refl (omega (arith, p.ends)) (omega (arith, p.ends)) p.leaves

-- a text that fits, stored at once
pub writes_stored : {text out after : List ℕ} → after ≡ stored_within out 0 text → length text ≤ length out
    → Writes 0 text out (record { refusal = 0; size = length text }) after
writes_stored {text} {out} {after} e h = done 0 text out after (length text) refl refl h (e ∙ within_fits out 0 text (omega arith))
