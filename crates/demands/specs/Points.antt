-- Which coordinate of a point is refused, and with which number (paper 01, "Fields" and "Refusal numbers"; paper 02, (iv)).
use Rattle.std.specs.Prelude.{◌≡◌, List, ℕ, ◌+◌, ◌*◌, ◌<◌}
use Rattle.digits.specs.LittleEndian.{word_at}
use Rattle.units.specs.Units.{millimetres}
use Rattle.packet.specs.Walk.{objects_of, records_of, record_at, IsFirst}

-- of X, Y and Z in the 16 bytes from p on, the first that is refused has this number (paper 01, "Refusal numbers")
pub data FirstRefused (edition : ℕ) (bs : List ℕ) (p number : ℕ) : Type 0 where
  at_x : (millimetres edition (word_at bs p)).refusal ≡ number → FirstRefused edition bs p number
  at_y : (millimetres edition (word_at bs p)).refusal ≡ 0 → (millimetres edition (word_at bs (p + 4))).refusal ≡ number
      → FirstRefused edition bs p number
  at_z : (millimetres edition (word_at bs p)).refusal ≡ 0 → (millimetres edition (word_at bs (p + 4))).refusal ≡ 0
      → (millimetres edition (word_at bs (p + 8))).refusal ≡ number → FirstRefused edition bs p number

-- point i is one of the first record of type 1, and the first of its coordinates that is refused has this number
pub record PointRefused (edition : ℕ) (bs : List ℕ) (i number : ℕ) : Type 0 where
  pub place : ℕ
  pub first : IsFirst 1 bs (records_of bs) 40 place
  pub below : i < objects_of bs
  pub coordinate : FirstRefused edition bs (record_at bs place 40 + 8 + 16 * i) number
