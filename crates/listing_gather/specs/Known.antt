-- What can be said of an input whose bytes are known, as those that a reader over memory has left.
use Rattle.std.specs.Prelude.{◌≡◌, ℕ, ◌<◌, List, length, take, ⊤, IfSome}
use Rattle.std.specs.declared.option.Option.{Option}
use Rattle.std.specs.Io.KnownBytes.{Keeps, Consumes, IsAtEnd}
use Rattle.std.specs.declared.option.Option.TheVariants.{Some, None}

-- a read took the bytes that it put into the block, none only at the end or with no room; where it failed it took none
abbrev pub Takes : Option (List ℕ) → Option (List ℕ) → Option ℕ → List ℕ → Type 0
Takes old new (Some n) block = Consumes old new (take n block) × (n ≡ 0 → 0 < length block → IsAtEnd new)
Takes old new None block = Keeps old new

-- where no read failed, the bytes gathered are the input: all of it, or as much as the buffer has room for
abbrev pub Holds : Option (List ℕ) → Option ℕ → List ℕ → Type 0
Holds known (Some n) buffer = IfSome known (λ xs. take n buffer ≡ take (length buffer) xs)
Holds known None buffer = ⊤
