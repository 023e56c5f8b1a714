-- Stores into a lent buffer, and what every writer promises of it.
use Rattle.std.specs.Prelude.{cond, ◌≡◌, List, ℕ, ◌+◌, eqb, leb, length}
use Rattle.std.specs.declared.result.Result.{Result}
use Rattle.std.specs.declared.result.Result.TheVariants.{Ok, Err}
use Rattle.std.proofs.lemmas.List.Edits.{sets}
use Rattle.refusals.specs.declared.Refusal.{Refusal}
use Rattle.refusals.specs.Numbers.{number}
use Rattle.digits.specs.LittleEndian.{to_little}
use Rattle.digits.specs.declared.Written.{Written}

-- the buffer with the bytes laid over it from offset at on; all others stay
unfoldable pub stored : List ℕ → ℕ → List ℕ → List ℕ
stored out at bytes = sets out at bytes

-- the same where the bytes fit; else the buffer unchanged
unfoldable pub stored_within : List ℕ → ℕ → List ℕ → List ℕ
stored_within out at bytes = cond (leb (at + length bytes) (length out)) (stored out at bytes) out

-- the buffer with the 32-bit number v laid over it at offset at; unchanged where it does not fit
unfoldable pub word_stored : List ℕ → ℕ → ℕ → List ℕ
word_stored out at v = stored_within out at (to_little 4 v)

-- the refusal of a writer of so many bytes: that of its values (0: none), else 51 where the room is too short
-- (paper 01, "Refusal numbers")
unfoldable pub writer_refusal : ℕ → ℕ → ℕ → ℕ
writer_refusal refusal size room = cond (eqb refusal 0) (cond (leb size room) 0 51) refusal

-- a writer's answer in numbers: the bytes produced, or the refusal's number (paper 01, "Refusal numbers")
abbrev pub written_of : Result ℕ Refusal → Written
written_of (Ok size) = record { refusal = 0; size = size }
written_of (Err r) = record { refusal = number r; size = 0 }

-- the answer of a writer whose values are refused with this number (0: not refused), and 51 where the output is too short
-- (paper 01, "Refusal numbers")
abbrev pub writer_answer : ℕ → List ℕ → List ℕ → Written
writer_answer refusal bytes out =
    cond (eqb refusal 0)
    (cond (leb (length bytes) (length out)) (record { refusal = 0; size = length bytes }) (record { refusal = 51; size = 0 }))
    (record { refusal = refusal; size = 0 })

-- what is in the buffer at exit: a refusal writes nothing, else exactly the produced bytes changed
-- (paper 01, "Refusal numbers")
abbrev pub writer_leaves : ℕ → List ℕ → List ℕ → List ℕ
writer_leaves refusal bytes out = cond (eqb refusal 0) (cond (leb (length bytes) (length out)) (stored out 0 bytes) out) out

-- the promise of every writer: its answer and the buffer at exit
pub record Writes (refusal : ℕ) (bytes out : List ℕ) (r : Written) (after : List ℕ) : Type 0 where
  pub answers : r ≡ writer_answer refusal bytes out
  pub leaves : after ≡ writer_leaves refusal bytes out
