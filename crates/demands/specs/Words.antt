-- The words that the sentences are stated with.
use Rattle.std.specs.Prelude.{true, false, ◌≡◌, List, ◌⊎◌, ℕ, drop}
use Rattle.form.specs.Form.{Stands}
use Rattle.reading.specs.Leftmost.{Standing}
use Rattle.reading.specs.Reading.{Reading, reading}
use Rattle.mmwave.specs.Paper.{EndsInField}
use Rattle.mmwave.specs.Dialects.{sentences_of}
use Rattle.capture.specs.Dialects.{form_of, judge_of}
use Rattle.capture.specs.Entries.{verdict}
use Rattle.std.specs.declared.option.Option.TheVariants.{Some}
use Rattle.form.specs.declared.Judgement.{Judgement}
use Rattle.refusals.specs.declared.Refusal.{Refusal}
use Rattle.capture.specs.declared.Dialect.{Dialect}
use Rattle.capture.specs.declared.Dialect.TheVariants.{Sirad, Packets}
use Rattle.std.specs.declared.result.Result.{Result}

-- -- Refusals in their order (paper 01, "Refusal numbers": "Order")

-- what is said of a refusal number
abbrev pub Said : Type 1
Said = ℕ → Type 0

-- nothing is refused: the number is 0
abbrev pub none : Said
none number = number ≡ 0

infixr 40 ◌when◌else◌ ◌unless◌else◌
-- n where the words apply; where they don't, what is said of the numbers behind it
abbrev pub ◌when◌else◌ : ℕ → Type 0 → Said → Said
(n when Words else others) number = (Words × (number ≡ n)) ⊎ ((Words → ⊥) × others number)

-- the same for words that have to apply
abbrev pub ◌unless◌else◌ : ℕ → Type 0 → Said → Said
(n unless Words else others) number = ((Words → ⊥) × (number ≡ n)) ⊎ (Words × others number)

-- "A refusal returns its number, every other number 0": an answer whose number is as said, and that is zeros beside it unless it is 0
pub record Refuses {A : Type 0} (said : Said) (zeros : ℕ → A) (number : A → ℕ) (answer : A) : Type 0 where
  pub in_order : said (number answer)
  pub every_other_0 : (number answer ≡ 0 → ⊥) → answer ≡ zeros (number answer)

-- -- Places (paper 01, "Judging a place" and "Two readings")

-- a frame of this kind and length "stands" at a place
abbrev pub StandsIn : Dialect → List ℕ → Standing
StandsIn d bs at kind size = Stands (form_of d) kind size (drop at bs)

-- what the judgement says at a place
abbrev pub judged_at : Dialect → List ℕ → ℕ → Result Judgement Refusal
judged_at d bs at = verdict (Some d) bs at

-- the open reading, with room for so many rows
abbrev pub open_of : Dialect → ℕ → List ℕ → Reading
open_of d room bs = reading (judge_of d) false room bs

-- the closed reading, with room for so many rows
abbrev pub closed_of : Dialect → ℕ → List ℕ → Reading
closed_of d room bs = reading (judge_of d) true room bs

-- the bytes "end inside" a four-byte field, of which SiRad has none
abbrev pub EndsInsideField : Dialect → List ℕ → Type 0
EndsInsideField Sirad bs = ⊥
EndsInsideField (Packets d) bs = EndsInField (sentences_of d) bs
