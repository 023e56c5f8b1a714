-- A judgement in numbers, case by case, and the promise of a function that judges (paper 01, "Judging a place" and "Which language form to
-- use").
use Rattle.std.specs.Prelude.{◌≡◌, List, ℕ}
use Rattle.form.specs.declared.Judgement.{Judgement}
use Rattle.form.specs.declared.Judgement.TheVariants.{Whole, Bad, Waiting}
use Rattle.form.specs.declared.JudgementNumbers.{JudgementNumbers}
use Rattle.form.specs.declared.Parsed.{Parsed}
use Rattle.form.specs.declared.Unparsed.{Unparsed}
use Rattle.form.specs.declared.Unparsed.TheVariants as unparsed
use Rattle.std.specs.declared.result.Result.{Result}
use Rattle.std.specs.declared.result.Result.TheVariants.{Ok, Err}
use Rattle.refusals.specs.declared.Refusal.{Refusal}
use Rattle.refusals.specs.Numbers.{number}
use Rattle.form.specs.Form.{Form, judge_at}

-- whole: 1, with kind and length; bad: 2, with its reason; waiting: 3. A judgement is no refusal
abbrev pub numbers_of : Judgement → JudgementNumbers
numbers_of (Whole k n) = record { refusal = 0; state = 1; kind = k; reason = 0; length = n }
numbers_of (Bad r) = record { refusal = 0; state = 2; kind = 0; reason = r; length = 0 }
numbers_of Waiting = record { refusal = 0; state = 3; kind = 0; reason = 0; length = 0 }

-- what is refused: the refusal's number, every other number 0 (paper 01, "Refusal numbers")
abbrev pub refused_numbers : ℕ → JudgementNumbers
refused_numbers n = record { refusal = n; state = 0; kind = 0; reason = 0; length = 0 }

-- an entry's answer in numbers: those of its judgement, or those of its refusal
abbrev pub answer_numbers : Result Judgement Refusal → JudgementNumbers
answer_numbers (Ok j) = numbers_of j
answer_numbers (Err r) = refused_numbers (number r)

-- the judgement that a piece's answer is: its value and end as kind and length, its reason, or waiting (paper 01, "Judging a place")
abbrev pub judgement_of : Result Parsed Unparsed → Judgement
judgement_of (Ok p) = Whole p.value p.end
judgement_of (Err (unparsed.Bad r)) = Bad r
judgement_of (Err unparsed.Waiting) = Waiting

-- the promise of a function that judges a piece from an offset of the bytes on: its answer, and with it the answer's numbers
pub record Judges (p : Form) (at : ℕ) (bs : List ℕ) (r : Judgement) : Type 0 where
  pub answers : r ≡ judge_at p at bs
  pub numbers : numbers_of r ≡ numbers_of (judge_at p at bs)
