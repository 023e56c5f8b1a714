-- What can be said of an output whose bytes are known, as those that a writer over memory holds.
use Rattle.std.specs.Prelude.{ℕ, List, take, Bool, true, false, IfSome}
use Rattle.std.specs.declared.option.Option.{Option}
use Rattle.std.specs.Io.KnownBytes.{Keeps, Appends}
use Rattle.capture.specs.declared.Dialect.{Dialect}
use Rattle.listing.specs.Listing.{listing}
use Rattle.listing_io.specs.declared.Fault.{Fault}
use Rattle.listing_io.specs.declared.Fault.TheVariants.{Unread, Unwritten}

-- the output grew by the text; where a write failed, by its first bytes
abbrev pub Grows : Option (List ℕ) → Option (List ℕ) → Bool → List ℕ → Type 0
Grows old new true text = Appends old new text
Grows old new false text = (n : ℕ) × Appends old new (take n text)

-- the output grew by the listing of the input, where the bytes of both are known
abbrev pub Lists : Dialect → Option (List ℕ) → Option (List ℕ) → Option (List ℕ) → Type 0
Lists d input old new = IfSome input (λ xs. Appends old new (listing d xs))

-- or by its first bytes, which may be none
abbrev pub ListsFirst : Dialect → Option (List ℕ) → Option (List ℕ) → Option (List ℕ) → Type 0
ListsFirst d input old new = IfSome input (λ xs. (n : ℕ) × Appends old new (take n (listing d xs)))

-- what a fault leaves: nothing is listed where a read failed, the first bytes of the listing are where a write did
abbrev pub Leaves : Dialect → Option (List ℕ) → Option (List ℕ) → Option (List ℕ) → Fault → Type 0
Leaves d input old new Unread = Keeps old new
Leaves d input old new Unwritten = ListsFirst d input old new
