-- A stream that is fed in pieces, call by call, and what its rows are (paper 02, (iii)).
use Rattle.std.specs.Prelude.{◌≡◌, List, [], ◌++◌, ℕ, ◌*◌, ◌≤◌, false, length, take, drop}
use Rattle.reading.specs.Reading.{reading, flat, row_width}
use Rattle.capture.specs.Dialects.{judge_of}
use Rattle.capture.specs.Feeding.{Feeds}
use Rattle.capture.specs.declared.Dialect.{Dialect}
use Rattle.capture.specs.declared.Stream.{Stream}
use Rattle.capture.specs.declared.Fed.{Fed}

-- the state of a stream that begins with so many waiting bytes; with none, that before a stream's first call
abbrev pub fresh : ℕ → Stream
fresh waiting = record { offset = 0; waiting = waiting }

-- a stream fed call by call, of which the accepted calls name one dialect: the state and the carry buffer now, the new bytes of the
-- accepted calls, joined, and the numbers of their rows, joined. Each call gets state and carry as the feeder left them
pub data Run (dialect : ℕ) : Stream → List ℕ → List ℕ → List ℕ → Type 0 where
  -- before the first call
  start : {carry : List ℕ} → Run dialect (fresh 0) carry [] []
  -- an accepted call
  call : {s : Stream} {carry bs numbers : List ℕ} → Run dialect s carry bs numbers
      → (bytes table : List ℕ) (r : Fed) (carry' table' : List ℕ) → Feeds dialect s carry bytes table r carry' table' → r.refusal ≡ 0
      → Run dialect r.stream carry' (bs ++ bytes) (numbers ++ take (row_width * r.rows) table')
  -- a refused call, of any dialect, changes nothing
  refusal : {s : Stream} {carry bs numbers : List ℕ} → Run dialect s carry bs numbers
      → (other : ℕ) (bytes table : List ℕ) (r : Fed) (carry' table' : List ℕ) → Feeds other s carry bytes table r carry' table'
      → (r.refusal ≡ 0 → ⊥) → Run dialect r.stream carry' bs numbers
  -- another carry buffer with the same waiting bytes, as after 60
  moved : {s : Stream} {carry bs numbers : List ℕ} → Run dialect s carry bs numbers
      → (carry' : List ℕ) → take s.waiting carry' ≡ take s.waiting carry → Run dialect s carry' bs numbers
  -- a new stream that begins with the waiting bytes of the last one, as after 3
  again : {s : Stream} {carry bs numbers : List ℕ} → Run dialect s carry bs numbers
      → Run dialect (fresh s.waiting) carry (take s.waiting carry) []

-- the stream's bytes at once: its rows' numbers are those of their open reading with room for them, its state is that reading's next
-- place and how many bytes are left from there on, and these lie at the carry's start
pub record AsOne (d : Dialect) (s : Stream) (carry bs numbers : List ℕ) : Type 0 where
  pub rows : (room : ℕ) → length (reading (judge_of d) false (length bs) bs).rows ≤ room
      → numbers ≡ flat (reading (judge_of d) false room bs).rows
  pub offset : s.offset ≡ (reading (judge_of d) false (length bs) bs).next
  pub waiting : s.waiting ≡ length (drop s.offset bs)
  pub carried : take s.waiting carry ≡ drop s.offset bs
