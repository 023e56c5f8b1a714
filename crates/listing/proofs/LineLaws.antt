-- The lines of a listing: how long they are, the turns of the loop over the rows, and the rows in the table.
use Rattle.std.proofs.Common.{◌≡◌, ℕ, zero, suc, ◌+◌, ◌-◌, ◌*◌, ◌<◌, ◌≤◌, List, [], ◌∷◌, ◌++◌, length, get_or, drop, sym, refl, ap, ◌∙◌, add-zero, arith, length-append, get_or-drop, drop-drop, le-ltb, lt-ltb}
use Rattle.digits.specs.Stores.{stored}
use Rattle.digits.proofs.StoreLaws.{stored_nil, stored_append}
use Rattle.reading.specs.Reading.{flat}
use Rattle.reading.specs.declared.Row.{Row}
use Rattle.listing.specs.Decimal.{width}
use Rattle.listing.specs.Lines.{letter, field, fields, row_line, row_lines, header_line, end_line, line_feed}
use Rattle.listing.specs.Internal.{Puts, Lays, table_lines, table_text, first_of, held_rows}
use Rattle.listing.proofs.PutLaws.{puts_then, lays_puts, lays_fit, lays_unfit}
use Rattle.listing.proofs.DecimalLaws.{width_most, length_decimal}

-- -- Lengths

-- a field has a tab and the number's digits
pub length_field : (v : ℕ) → length (field v) ≡ 1 + width v
unfolding field
length_field v = omega (arith, length_decimal v)

-- two numbers to the end of the line
pub length_fields : (a b : ℕ) → length (fields a b) ≡ 3 + width a + width b
unfolding fields
length_fields a b =
    let e = length-append (field a) (field b ++ (line_feed ∷ [])) in
    let f = length-append (field b) (line_feed ∷ []) in
    omega (arith, length_field a, length_field b)

-- they have at most 23 bytes
pub fields_most : (a b : ℕ) → length (fields a b) ≤ 23
fields_most a b = omega (arith, length_fields a b, width_most a, width_most b)

-- the line of a row has a letter in front of the numbers
pub length_row : (w : Row) → length (row_line w) ≡ 1 + length (fields w.offset w.size)
unfolding row_line
length_row w = omega arith

-- the line of a row has at most 24 bytes
pub row_most : (w : Row) → length (row_line w) ≤ 24
row_most w = omega (arith, length_row w, fields_most w.offset w.size)

-- the lines of a table's rows
pub table_most : (n : ℕ) (table : List ℕ) → length (table_lines n table) ≤ 24 * n
unfolding table_lines
table_most zero table = omega arith
table_most (suc n) table =
    let e = length-append (row_line (first_of table)) (table_lines n (drop 3 table)) in
    let a = row_most (first_of table) in
    let b = table_most n (drop 3 table) in
    omega arith

-- the last line has a word in front of the numbers
pub length_end : (size skipped : ℕ) → length (end_line size skipped) ≡ 3 + length (fields size skipped)
unfolding end_line
length_end size skipped = omega (arith, length-append (101 ∷ 110 ∷ 100 ∷ []) (fields size skipped))

-- the last line has at most 26 bytes
pub end_most : (size skipped : ℕ) → length (end_line size skipped) ≤ 26
end_most size skipped = omega (arith, length_end size skipped, fields_most size skipped)

-- the first line has 18 bytes
pub length_header : length header_line ≡ 18
unfolding header_line
length_header = refl

-- the whole text
pub length_table_text : (n : ℕ) (table : List ℕ) (size skipped : ℕ)
    → length (table_text n table size skipped) ≡ 21 + length (table_lines n table) + length (fields size skipped)
unfolding table_text header_line
length_table_text n table size skipped =
    let e = length-append header_line (table_lines n table ++ end_line size skipped) in
    let f = length-append (table_lines n table) (end_line size skipped) in
    omega (arith, length_end size skipped)

-- -- A word and two numbers

pub line_unfit : (word out : List ℕ) (at a b : ℕ) → length out < at + (length word + length (fields a b))
    → Lays (word ++ fields a b) out at at out
line_unfit word out at a b h = lays_unfit (word ++ fields a b) out at (omega (arith, length-append word (fields a b)))

pub line_fits : {word out out' out'' : List ℕ} {at m end : ℕ} (a b : ℕ) → Puts word out at m out' → Puts (fields a b) out' m end out''
    → at + (length word + length (fields a b)) ≤ length out → Lays (word ++ fields a b) out at end out''
line_fits {word} {out} {out'} {out''} {at} {m} {end} a b p q h = lays_fit (puts_then p q) (omega (arith, length-append word (fields a b)))

-- -- A row

-- its length
pub length_row_at : (table : List ℕ) (index : ℕ)
    → length (row_line (first_of (drop index table))) ≡ 1 + length (fields (get_or table index 0) (get_or table (index + 1) 0))
length_row_at table index =
    length_row (first_of (drop index table)) ∙ rw (get_or-drop index table 0 0, get_or-drop index table 1 0, add-zero index)

-- a letter and two numbers of the table, put as a line, are the line of the row there
pub puts_row : (table : List ℕ) (index k : ℕ) {out after : List ℕ} {at end : ℕ} → k ≡ letter (get_or table (index + 2) 0)
    → Lays ((k ∷ []) ++ fields (get_or table index 0) (get_or table (index + 1) 0)) out at end after
    → at + length (row_line (first_of (drop index table))) ≤ length out → Puts (row_line (first_of (drop index table))) out at end after
unfolding row_line
puts_row table index k e l h =
    rw (get_or-drop index table 0 0, get_or-drop index table 1 0, get_or-drop index table 2 0, add-zero index, ← e)
    (lays_puts l (omega (arith, length_row_at table index)))

-- -- The loops over the rows

-- i rows are measured or put, up to offset at; the rest follows
pub record Reached (table : List ℕ) (from rows i at : ℕ) : Type 0 where
  pub within : i ≤ rows
  pub ended : at + length (table_lines (rows - i) (drop (3 * i) table)) ≡ from + length (table_lines rows table)

module _ (table : List ℕ) (from rows : ℕ) where
  pub reached_start : Reached table from rows 0 from
  reached_start =
      let z : rows - 0 ≡ rows = omega arith in
      record { within = omega arith; ended = rw z }

  -- the lines that are left start with that of row i
  next_line : (i : ℕ) → i < rows
      → table_lines (rows - i) (drop (3 * i) table)
      ≡ row_line (first_of (drop (3 * i) table)) ++ table_lines (rows - (i + 1)) (drop (3 * (i + 1)) table)
  unfolding table_lines
  next_line i l =
      let n : rows - i ≡ suc (rows - (i + 1)) = omega arith in
      let m : 3 * i + 3 ≡ 3 * (i + 1) = omega arith in
      rw (n, ← m, ← drop-drop 3 (3 * i) table)

  pub reached_next : (i at at' : ℕ) → Reached table from rows i at → i < rows → at' ≡ at + length (row_line (first_of (drop (3 * i) table)))
      → Reached table from rows (i + 1) at'
  reached_next i at at' g l e =
      let line = row_line (first_of (drop (3 * i) table)) in
      let rest = table_lines (rows - (i + 1)) (drop (3 * (i + 1)) table) in
      record { within = omega arith; ended = omega (arith, length-append line rest, ap length (next_line i l), e, g.ended) }

  -- the next line ends before the text does
  pub reached_fits : (i at : ℕ) → Reached table from rows i at → i < rows
      → at + length (row_line (first_of (drop (3 * i) table))) ≤ from + length (table_lines rows table)
  reached_fits i at g l =
      let line = row_line (first_of (drop (3 * i) table)) in
      let rest = table_lines (rows - (i + 1)) (drop (3 * (i + 1)) table) in
      omega (arith, length-append line rest, ap length (next_line i l), g.ended)

  pub reached_over : (i at : ℕ) → Reached table from rows i at → rows ≤ i → at ≡ from + length (table_lines rows table)
  unfolding table_lines
  reached_over i at g h =
      let z : rows - i ≡ 0 = omega arith in
      sym (add-zero at) ∙ rw z at g.ended

-- as many rows are put
pub record Listing (table out₀ out : List ℕ) (from rows i at : ℕ) : Type 0 where
  pub reached : Reached table from rows i at
  pub same_length : length out ≡ length out₀
  pub written : stored out at (table_lines (rows - i) (drop (3 * i) table)) ≡ stored out₀ from (table_lines rows table)

module _ (table out₀ : List ℕ) (from rows : ℕ) where
  pub listing_start : Listing table out₀ out₀ from rows 0 from
  listing_start =
      let z : rows - 0 ≡ rows = omega arith in
      record { reached = reached_start table from rows; same_length = refl; written = rw z }

  pub listing_next : (out out' : List ℕ) (i at at' : ℕ) → Listing table out₀ out from rows i at → i < rows
      → Puts (row_line (first_of (drop (3 * i) table))) out at at' out' → length out' ≡ length out
      → Listing table out₀ out' from rows (i + 1) at'
  listing_next out out' i at at' g l p e =
      let line = row_line (first_of (drop (3 * i) table)) in
      let rest = table_lines (rows - (i + 1)) (drop (3 * (i + 1)) table) in
      record {
        reached = reached_next table from rows i at at' g.reached l p.ends;
        same_length = e ∙ g.same_length;
        written =
            rw (p.leaves, p.ends)
            (sym (stored_append out at line rest) ∙ sym (ap (stored out at) (next_line table from rows i l)) ∙ g.written);
      }

  pub listing_over : (out : List ℕ) (i at : ℕ) → Listing table out₀ out from rows i at → rows ≤ i
      → Puts (table_lines rows table) out₀ from at out
  unfolding table_lines
  listing_over out i at g h =
      let z : rows - i ≡ 0 = omega arith in
      record {
        leaves = sym (stored_nil out at) ∙ rw z at g.written;
        ends = reached_over table from rows i at g.reached h;
      }

-- -- The rows in the table

-- the lines of the rows that lie in a table are the lines of the rows
pub lines_of_rows : (ws : List Row) (rest : List ℕ) → table_lines (length ws) (flat ws ++ rest) ≡ row_lines ws
unfolding table_lines row_lines flat
lines_of_rows [] rest = refl
lines_of_rows (w ∷ ws) rest = ap (λ (text : List ℕ). row_line w ++ text) (lines_of_rows ws rest)

-- -- The rows asked for

pub held_many : (rows : ℕ) (table : List ℕ) → 8192 < rows → 0 ≡ held_rows rows table
unfolding held_rows
held_many rows table h = rw (lt-ltb 8192 rows h)

pub held_few : (rows : ℕ) (table : List ℕ) → rows ≤ 8192 → length table < 3 * rows → 0 ≡ held_rows rows table
unfolding held_rows
held_few rows table h l = rw (le-ltb 8192 rows h, lt-ltb (length table) (3 * rows) l)

pub held_all : (rows : ℕ) (table : List ℕ) → rows ≤ 8192 → 3 * rows ≤ length table → rows ≡ held_rows rows table
unfolding held_rows
held_all rows table h l = rw (le-ltb 8192 rows h, le-ltb (length table) (3 * rows) l)
