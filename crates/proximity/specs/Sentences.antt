-- The front door of "is anyone close": what is proved of the answers, in the paper's words (paper 02, (vi)).
-- `CloseRefusesExactly` and `ClosePacketsFirst` are propositions; their proofs, in proofs/Theorems.antt, have these names in small letters.
-- `anyone_close` promises that its answer is `closeness`: so what is said of it is said of the answers.
use Rattle.std.specs.Prelude.{◌≡◌, List, [], ◌∷◌, ◌++◌, ◌↔◌, ℕ, ◌<◌, ◌≤◌, nat_abs, length}
use Rattle.mmwave.specs.declared.PacketDialect.TheVariants.{MmWave}
use Rattle.packet.specs.declared.PacketPoint.{PacketPoint}
use Rattle.packet.specs.Fields.{point_of}
use Rattle.reading.specs.declared.Row.{Row}
use Rattle.reading.specs.Leftmost.{Leftmost}
use Rattle.capture.specs.declared.Dialect.TheVariants.{Packets}
use Rattle.capture.specs.Entries.{max_bytes}
use Rattle.capture.specs.Demands.{StandsIn}
use Rattle.units.specs.Units.{Edition}
use Rattle.coordinate_bounds.specs.Bounds.{max_distance}
use Rattle.proximity.specs.Proximity.{refused, close_at, nobody, frame_of, closeness}

-- -- Words

-- a point lies within d millimetres: it is given, and X, Y and Z are each at most d in magnitude
pub record Close (d : ℕ) (p : PacketPoint) : Type 0 where
  pub given : p.refusal ≡ 0
  pub x : nat_abs p.x ≤ d
  pub y : nat_abs p.y ≤ d
  pub z : nat_abs p.z ≤ d

-- point i of the packet, as field reading gives it, is close; one that it refuses, for its index too, is not
abbrev pub CloseIn : ℕ → ℕ → List ℕ → ℕ → Type 0
CloseIn edition d packet i = Close d (point_of edition packet i)

-- no point of the packet is close
abbrev pub NoneClose : ℕ → ℕ → List ℕ → Type 0
NoneClose edition d packet = (i : ℕ) → CloseIn edition d packet i → ⊥

-- point i is the first of the packet that is close
pub record FirstClose (edition d : ℕ) (packet : List ℕ) (i : ℕ) : Type 0 where
  pub close : CloseIn edition d packet i
  pub before : (j : ℕ) → j < i → CloseIn edition d packet j → ⊥

-- no packet of the rows has a close point
unfoldable pub NobodyIn : ℕ → ℕ → List ℕ → List Row → Type 0
NobodyIn edition d bs [] = Unit {0}
NobodyIn edition d bs (w ∷ ws) = NoneClose edition d (frame_of bs w) × NobodyIn edition d bs ws

-- the first packet of the rows that has a close point is at this offset, and its first close one has this index
pub record FirstCloseIn (edition d : ℕ) (bs : List ℕ) (ws : List Row) (offset index : ℕ) : Type 0 where
  pub before : List Row
  pub packet : Row
  pub behind : List Row
  pub rows : ws ≡ before ++ packet ∷ behind
  pub none_before : NobodyIn edition d bs before
  pub place : packet.offset ≡ offset
  pub first : FirstClose edition d (frame_of bs packet) index

-- a call that is not refused
pub record Asks (dialect edition d : ℕ) (bs : List ℕ) : Type 0 where
  pub mmwave : dialect ≡ 1
  pub short : length bs ≤ max_bytes
  pub legal : Edition edition
  pub near : d ≤ max_distance

-- -- Sentences

-- refused are exactly the calls with another dialect than 1, more than 1,048,576 bytes, another edition than 1 and 2, or a distance over
-- 1,000,000; the first of these in this order gives the number, and every other number is 0
pub record CloseRefusals (dialect edition d : ℕ) (bs : List ℕ) : Type 0 where
  pub answers : ((closeness dialect edition d bs).refusal ≡ 0) ↔ Asks dialect edition d bs
  pub by_dialect : ((closeness dialect edition d bs).refusal ≡ 1) ↔ (dialect ≡ 1 → ⊥)
  pub by_size : ((closeness dialect edition d bs).refusal ≡ 3) ↔ ((dialect ≡ 1) × (max_bytes < length bs))
  pub by_edition : ((closeness dialect edition d bs).refusal ≡ 32) ↔ ((dialect ≡ 1) × (length bs ≤ max_bytes) × (Edition edition → ⊥))
  pub by_distance : ((closeness dialect edition d bs).refusal ≡ 33)
      ↔ ((dialect ≡ 1) × (length bs ≤ max_bytes) × Edition edition × (max_distance < d))
  pub zeros : ((closeness dialect edition d bs).refusal ≡ 0 → ⊥)
      → closeness dialect edition d bs ≡ refused (closeness dialect edition d bs).refusal

-- that of every call
abbrev pub CloseRefusesExactly : Type 0
CloseRefusesExactly = (dialect edition d : ℕ) (bs : List ℕ) → CloseRefusals dialect edition d bs

-- "yes", with an offset and an index, exactly if these are the first packet of the leftmost reading that has a close point and its first
-- close one; "no", with zeros, exactly if no packet has any
pub record Answers (dialect edition d : ℕ) (bs : List ℕ) (ws : List Row) : Type 0 where
  pub yes : (offset index : ℕ) → (closeness dialect edition d bs ≡ close_at offset index) ↔ FirstCloseIn edition d bs ws offset index
  pub no : (closeness dialect edition d bs ≡ nobody) ↔ NobodyIn edition d bs ws

-- that of every call that is not refused
abbrev pub ClosePacketsFirst : Type 0
ClosePacketsFirst =
    (dialect edition d : ℕ) (bs : List ℕ) → Asks dialect edition d bs → (ws : List Row) → Leftmost (StandsIn (Packets MmWave) bs) 0 ws
    → Answers dialect edition d bs ws
