-- What only the code's own contracts need; no rule of the papers is stated here.
use Rattle.std.specs.Prelude.{cond, ◌≡◌, List, [], ◌++◌, ℕ, zero, suc, ◌+◌, ◌-◌, ◌*◌, ◌<◌, ◌≤◌, leb, ltb, length, take, drop, get_or}
use Rattle.digits.specs.Stores.{stored, stored_within}
use Rattle.reading.specs.declared.Row.{Row}
use Rattle.listing.specs.Lines.{header_line, row_line, end_line}
use Rattle.std.specs.declared.option.Option.{Option}
use Rattle.std.specs.declared.option.Option.TheVariants.{Some, None}

-- -- Buffers

-- a buffer of so many bytes holds every listing: 8,192 lines of at most 24 bytes, the first line of 18 and the last one of at most 26
abbrev pub text_room : ℕ
text_room = 196652

-- -- Text at an offset

-- the text lies in the buffer from the offset on, all other bytes stay, and the answer is the offset behind it
pub record Puts (text out : List ℕ) (at end : ℕ) (after : List ℕ) : Type 0 where
  pub leaves : after ≡ stored out at text
  pub ends : end ≡ at + length text

-- the same where the text fits; else the buffer is unchanged, and the answer is the offset itself
pub record Lays (text out : List ℕ) (at end : ℕ) (after : List ℕ) : Type 0 where
  pub leaves : after ≡ stored_within out at text
  pub ends : end ≡ cond (leb (at + length text) (length out)) (at + length text) at

-- -- Rows in a table

-- the first three numbers of a table as a row
abbrev pub first_of : List ℕ → Row
first_of table = record { offset = get_or table 0 0; size = get_or table 1 0; kind = get_or table 2 0 }

-- the lines of the first n rows of a table
unfoldable pub table_lines : ℕ → List ℕ → List ℕ
table_lines zero table = []
table_lines (suc n) table = row_line (first_of table) ++ table_lines n (drop 3 table)

-- the text of the first n rows of a table: the first line, the rows' lines, the last line
unfoldable pub table_text : ℕ → List ℕ → ℕ → ℕ → List ℕ
table_text n table size skipped = header_line ++ (table_lines n table ++ end_line size skipped)

-- the number of rows asked for, where the table holds them and they are at most 8,192; else none
unfoldable pub held_rows : ℕ → List ℕ → ℕ
held_rows rows table = cond (ltb 8192 rows) 0 (cond (ltb (length table) (3 * rows)) 0 rows)

-- the text of these rows
abbrev pub held_text : ℕ → List ℕ → ℕ → ℕ → List ℕ
held_text rows table size skipped = table_text (held_rows rows table) table size skipped

-- -- Standard input

-- the bytes that a read gave are no more than the block's
abbrev pub Within : Option ℕ → List ℕ → Type 0
Within (Some n) block = n ≤ length block
Within None block = Unit {0}

-- the first bytes of a block, at most `got`, lie behind the `size` bytes gathered; some do, if there are any and there is room
pub record Appends (buffer : List ℕ) (size : ℕ) (block : List ℕ) (got end : ℕ) (after : List ℕ) : Type 0 where
  pub puts : Puts (take (end - size) block) buffer size end after
  pub within : end ≤ length buffer
  pub taken : end - size ≤ got
  pub grows : 0 < got → size < length buffer → size < end
