-- The refusals once more, as conditions in paper 01's words, and what "the first whose condition holds" says.
use Rattle.std.specs.Prelude.{◌≡◌, Bool, List, [], ◌∷◌, ◌⊎◌, ℕ, ◌*◌, ◌<◌, ◌≤◌, length, get_or, Some}
use Rattle.demorad.specs.Rules.{max_payload, rules}
use Rattle.demorad.specs.Image.{command_bytes}
use Rattle.demorad.specs.Reading.{bits, header_of, length_of, code_of, count_of, payload_of}
use Rattle.demorad.specs.declared.Rule.{Rule}
use Rattle.demorad.specs.declared.Selection.{Selection}

-- the code is in no row of the table
unfoldable pub Absent : ℕ → List (ℕ × Rule) → Type 0
Absent code [] = Unit {0}
Absent code (row ∷ rows) = (code ≡ row.0 → ⊥) × Absent code rows

-- the code has this row in the table
unfoldable pub Listed : ℕ → Rule → List (ℕ × Rule) → Type 0
Listed code rule [] = ⊥
Listed code rule (row ∷ rows) = ((code ≡ row.0) × (rule ≡ row.1)) ⊎ Listed code rule rows

-- when a command is illegal, with the number (paper 01, "Refusal numbers")
pub data Illegal (code count : ℕ) (words : List ℕ) : ℕ → Type 0 where
  -- unknown code
  unknown_code : Absent code rules → Illegal code count words 44
  -- payload count wrong
  too_few : (rule : Rule) → Listed code rule rules → count < rule.least → Illegal code count words 45
  too_many : (rule : Rule) → Listed code rule rules → rule.most < count → Illegal code count words 45
  -- payload count over 30
  over_thirty : max_payload < count → Illegal code count words 45
  -- selection out of range
  wrong_selection : (rule : Rule) (selection : Selection) → Listed code rule rules → rule.selection ≡ Some selection
      → selection.top < get_or words selection.index 0
      → Illegal code count words 46

-- when bytes are no command, with the number (paper 01, "Refusal numbers")
pub data Unreadable (bs : List ℕ) : ℕ → Type 0 where
  -- under 4 bytes
  too_short : length bs < 4 → Unreadable bs 40
  -- a rest bit set: one of the bits 21 to 30
  rest_bit : (i : ℕ) → 21 ≤ i → i ≤ 30 → bits i 1 (header_of bs) ≡ 1 → Unreadable bs 41
  -- length 0
  no_length : length_of (header_of bs) ≡ 0 → Unreadable bs 42
  -- byte count not four times the length
  wrong_size : (length bs ≡ 4 * length_of (header_of bs) → ⊥) → Unreadable bs 43
  -- code, payload count or selection
  illegal_read : {n : ℕ} → Illegal (code_of (header_of bs)) (count_of bs) (payload_of bs) n → Unreadable bs n

-- when a command cannot be written into the buffer, with the number (paper 01, "Refusal numbers")
pub data Unwritable (rd : Bool) (code count : ℕ) (words out : List ℕ) : ℕ → Type 0 where
  -- code, payload count or selection
  illegal_write : {n : ℕ} → Illegal code count words n → Unwritable rd code count words out n
  -- output too short
  no_room : length out < length (command_bytes rd code count words) → Unwritable rd code count words out 51

-- r is the first number whose condition holds, 0 exactly if none holds
pub record First (condition : ℕ → Type 0) (r : ℕ) : Type 0 where
  pub none : r ≡ 0 → (n : ℕ) → condition n → ⊥
  pub holds : (r ≡ 0 → ⊥) → condition r
  pub least : (n : ℕ) → n < r → condition n → ⊥
