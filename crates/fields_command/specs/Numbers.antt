-- A command as numbers that cross to C (paper 01, "DemoRad").
use Rattle.std.specs.Prelude.{Bool, cond, List, ℕ, eqb, leb, Result}
use Rattle.refusals.specs.Numbers.{refusal_number}
use Rattle.refusals.specs.declared.Refusal.{Refusal}
use Rattle.demorad.specs.Rules.{legality}
use Rattle.demorad.specs.Image.{command_bytes}
use Rattle.demorad.specs.Reading.{values_of}
use Rattle.demorad.specs.declared.Command.{Command}
use Rattle.fields_command.specs.declared.CommandNumbers.{CommandNumbers}

-- RD as a number: 1 if it is set, else 0
abbrev pub rd_number : Bool → ℕ
rd_number rd = cond rd 1 0

-- an answer with RD as a number (paper 01, "DemoRad": RD, the code, the payload count and 30 words by value; "Refusal numbers": a
-- refusal's number, every other number 0)
abbrev pub command_numbers : Result Command Refusal → CommandNumbers
command_numbers answer =
    let c = values_of answer in
    record { refusal = refusal_number answer; rd = rd_number c.rd; code = c.code; count = c.count; words = c.words }

-- the refusal of numbers to be written: 44, 45, 46, then 50 for an RD without an encoding; 0 for none (paper 01, "Refusal numbers")
unfoldable pub numbers_refusal : CommandNumbers → ℕ
numbers_refusal c =
    cond (eqb (legality c.code c.count c.words) 0) (cond (leb c.rd 1) 0 50) (legality c.code c.count c.words)

-- the command of numbers that are not refused: RD is set by a 1
unfoldable pub numbers_bytes : CommandNumbers → List ℕ
numbers_bytes c = command_bytes (eqb c.rd 1) c.code c.count c.words
