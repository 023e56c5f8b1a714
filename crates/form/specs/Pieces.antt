-- The pieces that the wires' grammars are written with.
use Rattle.std.specs.Prelude.{Bool, true, ◌≡◌, List, [], ◌∷◌, ℕ, zero, suc, ◌+◌, ◌<◌, eqb, length, take, get_or}
use Rattle.form.specs.Form.{Form, whole, byte, word}

-- the test that takes everything
abbrev pub any : ℕ → Bool
any v = true

-- one byte that passes the test; its value is the byte
abbrev pub one : ℕ → (ℕ → Bool) → Form
one reason test = byte reason test whole

-- one reason, whatever the number
abbrev pub always : ℕ → ℕ → ℕ
always reason v = reason

-- one four-byte field that passes the test; its value is the number
abbrev pub four : (ℕ → ℕ) → (ℕ → Bool) → Form
four reason test = word reason test whole

-- the given bytes, one by one
unfoldable pub marker : ℕ → List ℕ → Form
marker reason [] = whole 0
marker reason (m ∷ ms) = byte reason (λ b. eqb b m) (λ _. marker reason ms)

-- n free bytes
unfoldable pub free : ℕ → Form
free zero = whole 0
free (suc n) = byte 0 any (λ _. free n)

-- n free four-byte fields
unfoldable pub frees : ℕ → Form
frees zero = whole 0
frees (suc n) = word (always 0) any (λ _. frees n)

-- the bytes break the given ones: one that is there is another, and those before it are as given
unfoldable pub Broken : List ℕ → List ℕ → Type 0
Broken ms xs = (i : ℕ) × (i < length ms) × (i < length xs) × (take i xs ≡ take i ms) × (get_or xs i 0 ≡ get_or ms i 0 → ⊥)

-- one to three bytes of the four-byte field at this offset are there
abbrev pub Cut : ℕ → List ℕ → Type 0
Cut at bs = (at < length bs) × (length bs < at + 4)
