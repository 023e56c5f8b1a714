-- What a reading asks of the judgement it goes by.
use Rattle.std.specs.Prelude.{◌≡◌, List, [], ◌++◌, ℕ, ◌<◌, ◌≤◌, length}
use Rattle.form.specs.declared.Judgement.{Judgement}
use Rattle.form.specs.declared.Judgement.TheVariants.{Whole, Waiting}

-- a whole frame lies within the bytes and is not empty, whole and bad judgements are kept under further bytes, and the end waits (paper 01,
-- "Judging a place" and "Two readings")
pub record Lawful (judge : List ℕ → Judgement) : Type 0 where
  pub fits : (bs : List ℕ) (k n : ℕ) → judge bs ≡ Whole k n → n ≤ length bs
  pub filled : (bs : List ℕ) (k n : ℕ) → judge bs ≡ Whole k n → 0 < n
  pub stays : (bs more : List ℕ) → (judge bs ≡ Waiting → ⊥) → judge (bs ++ more) ≡ judge bs
  pub ends : judge [] ≡ Waiting
