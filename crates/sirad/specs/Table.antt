-- Paper 01's table of the SiRad frames by byte number: identifier, class of every byte, total bytes; and T frames block by block
-- (paper 02, (ii)).
use Rattle.std.specs.Prelude.{true, false, cond, ◌≡◌, ◌⊎◌, List, ℕ, ◌+◌, ◌-◌, ◌*◌, ◌/◌, ◌%◌, ◌<◌, ◌≤◌, eqb, ltb, leb, length, get_or, drop}
use Rattle.digits.specs.Bytes.{is_hex, is_character}
use Rattle.digits.specs.Hex.{hex_at}
use Rattle.sirad.specs.Classes.{Class, Hex, Char, Zero, Cr, Lf, accepts, reason, Passes}
use Rattle.sirad.specs.Rows.{classes, row_of}

-- column "Id", kinds 1 to 6
abbrev pub identifier : ℕ → ℕ
identifier kind =
    cond (eqb kind 1) 82
    (cond (eqb kind 2) 80 (cond (eqb kind 3) 67 (cond (eqb kind 4) 84 (cond (eqb kind 5) 85 69))))

-- column "Total bytes", with n the size field
abbrev pub total : ℕ → ℕ → ℕ
total kind n = cond (leb kind 3) (16 + n) (cond (eqb kind 4) 230 (cond (eqb kind 5) 26 8))

-- byte j of a target: number 0, distance 1 to 4, magnitude 5, phase 6 to 9, reserved 10 to 13
abbrev pub target_class : ℕ → Class
target_class j = cond (ltb j 5) Hex (cond (eqb j 5) Char (cond (ltb j 10) Hex Char))

-- the first byte of the T block that byte i stands in
abbrev pub block_start : ℕ → ℕ
block_start i = 4 + 14 * ((i - 4) / 14)

-- byte i of a T frame's blocks: a block whose first byte is 0 is fourteen bytes of value 0, any other is a target (paper 02, (ii))
abbrev pub block_class : List ℕ → ℕ → Class
block_class bs i = cond (eqb (get_or bs (block_start i) 0) 0) Zero (target_class ((i - 4) % 14))

-- column "Body": byte i of a frame, counted from its `!`. Kinds 1 to 3: size 2 to 5, then reserved and data; T: format 2, gain 3, blocks
-- from 4 on; U: gain 3, else digits; E: digits
abbrev pub body_class : ℕ → List ℕ → ℕ → Class
body_class kind bs i =
    cond (leb kind 3) (cond (ltb i 6) Hex Char)
    (cond (eqb kind 4) (cond (ltb i 3) Hex (cond (eqb i 3) Char (block_class bs i)))
    (cond (eqb kind 5) (cond (eqb i 3) Char Hex) Hex))

-- the class of byte i, from the byte behind the identifier on, in a frame of size bytes: the last two are the stop marker
unfoldable pub class_at : ℕ → ℕ → List ℕ → ℕ → Class
class_at kind size bs i = cond (ltb i (size - 2)) (body_class kind bs i) (cond (eqb i (size - 2)) Cr Lf)

-- the bytes are a frame of this kind, by the table
pub record TableFrame (kind : ℕ) (bs : List ℕ) : Type 0 where
  pub some : 1 ≤ kind
  pub most : kind ≤ 6
  pub size : length bs ≡ total kind (hex_at 4 2 bs)
  pub start : get_or bs 0 0 ≡ 33
  pub named : get_or bs 1 0 ≡ identifier kind
  pub each : (i : ℕ) → 2 ≤ i → i < length bs → accepts (class_at kind (length bs) bs i) (get_or bs i 0) ≡ true

-- block q of a T frame is fourteen bytes of value 0 (paper 02, (ii))
abbrev pub ZeroBlock : List ℕ → ℕ → Type 0
ZeroBlock bs q = (j : ℕ) → j < 14 → get_or bs (4 + 14 * q + j) 0 ≡ 0

-- block q of a T frame is a target, by its classes (paper 01, "SiRad")
abbrev pub TargetBlock : List ℕ → ℕ → Type 0
TargetBlock bs q = (j : ℕ) → j < 14 → accepts (target_class j) (get_or bs (4 + 14 * q + j) 0) ≡ true

-- the bytes are a T frame, block by block: each is one or the other (paper 02, (ii))
pub record BlockFrame (bs : List ℕ) : Type 0 where
  pub size : length bs ≡ 230
  pub start : get_or bs 0 0 ≡ 33
  pub named : get_or bs 1 0 ≡ 84
  pub format : is_hex (get_or bs 2 0) ≡ true
  pub gain : is_character (get_or bs 3 0) ≡ true
  pub block : (q : ℕ) → q < 16 → ZeroBlock bs q ⊎ TargetBlock bs q
  pub cr : get_or bs 228 0 ≡ 13
  pub lf : get_or bs 229 0 ≡ 10

-- the bytes are refused inside a T frame's block q: its first byte commits it to the value 0, byte j is the first that has another, and all
-- before the block is fine (paper 02, (ii), 17)
pub record BrokenBlock (bs : List ℕ) (q j : ℕ) : Type 0 where
  pub start : get_or bs 0 0 ≡ 33
  pub named : get_or bs 1 0 ≡ 84
  pub format : is_hex (get_or bs 2 0) ≡ true
  pub gain : is_character (get_or bs 3 0) ≡ true
  pub blocks : (p : ℕ) → p < q → ZeroBlock bs p ⊎ TargetBlock bs p
  pub one_of : q < 16
  pub behind : 1 ≤ j
  pub inside : j < 14
  pub there : 4 + 14 * q + j < length bs
  pub zeros : (i : ℕ) → i < j → get_or bs (4 + 14 * q + i) 0 ≡ 0
  pub breaks : get_or bs (4 + 14 * q + j) 0 ≡ 0 → ⊥

-- the bytes are a frame of this kind, by its row of pieces
pub record RowFrame (kind : ℕ) (bs : List ℕ) : Type 0 where
  pub some : 1 ≤ kind
  pub most : kind ≤ 6
  pub start : get_or bs 0 0 ≡ 33
  pub named : get_or bs 1 0 ≡ identifier kind
  pub passes : Passes (classes (row_of kind (hex_at 4 2 bs)) (drop 2 bs)) (drop 2 bs)

-- of a frame of size bytes, byte at is the first behind the identifier that is not of its class
pub record FirstFails (kind size at : ℕ) (bs : List ℕ) : Type 0 where
  pub behind : 2 ≤ at
  pub there : at < length bs
  pub inside : at < size
  pub passed : (i : ℕ) → 2 ≤ i → i < at → accepts (class_at kind size bs i) (get_or bs i 0) ≡ true
  pub fails : accepts (class_at kind size bs at) (get_or bs at 0) ≡ false

-- the bytes are refused with this reason, by the table: the first byte that fails its check gives it (paper 01, "Judging a place")
pub data Refused (bs : List ℕ) : ℕ → Type 0 where
  no_start : 1 ≤ length bs → (get_or bs 0 0 ≡ 33 → ⊥) → Refused bs 10
  no_identifier : 2 ≤ length bs → get_or bs 0 0 ≡ 33 → ((kind : ℕ) → 1 ≤ kind → kind ≤ 6 → get_or bs 1 0 ≡ identifier kind → ⊥)
      → Refused bs 11
  no_member : (kind at : ℕ) → 1 ≤ kind → kind ≤ 6 → get_or bs 0 0 ≡ 33 → get_or bs 1 0 ≡ identifier kind
      → FirstFails kind (total kind (hex_at 4 2 bs)) at bs → Refused bs (reason (class_at kind (total kind (hex_at 4 2 bs)) bs at))
