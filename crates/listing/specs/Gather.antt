-- What can be said of bytes that the operating system delivers (paper 01, "The listing").
use Rattle.std.specs.Prelude.{Bool, true, false, ◌≡◌, List, ℕ, ◌<◌, ◌≤◌, length}
use Rattle.digits.specs.Stores.{stored}
use Rattle.std.specs.declared.option.Option.{Option}
use Rattle.std.specs.declared.option.Option.TheVariants.{Some, None}

-- a block that the system reads into: what it holds at exit is the system's to choose, and its length stays
pub record Lent (block after : List ℕ) : Type 0 where
  pub held : List ℕ
  pub leaves : after ≡ held
  pub same_length : length held ≡ length block

-- the answer for an input: its length, or none where it can't be read to its end
abbrev pub input_answer : Bool → List ℕ → Option ℕ
input_answer true input = Some (length input)
input_answer false input = None

-- some input, and whether it could be read to its end, are the system's to choose; the input fits, lies in the buffer from its
-- start on, and all bytes behind it stay; where a read failed, it is what came before; with an empty block no read succeeds
pub record Gathers (block buffer : List ℕ) (r : Option ℕ) (block' after : List ℕ) : Type 0 where
  pub input : List ℕ
  pub readable : Bool
  pub answers : r ≡ input_answer readable input
  pub fits : length input ≤ length buffer
  pub leaves : after ≡ stored buffer 0 input
  pub blocked : readable ≡ true → 0 < length block
  pub lent : Lent block block'
