-- A command's numbers at the C face: a command read is written as the command it is.
use Rattle.std.proofs.Common.{◌≡◌, refl, sym, Bool, true, false, ◌≤◌, arith, le-leb, eqb-true, eqb, Result}
use Rattle.refusals.specs.declared.Refusal.{Refusal}
use Rattle.digits.proofs.Choices.{test}
use Rattle.demorad.specs.Rules.{legality}
use Rattle.demorad.specs.Image.{command_bytes}
use Rattle.demorad.specs.Reading.{values_of}
use Rattle.demorad.specs.declared.Command.{Command}
use Rattle.fields_command.specs.declared.CommandNumbers.{CommandNumbers}
use Rattle.fields_command.specs.Numbers.{rd_number, command_numbers, numbers_refusal, numbers_bytes}

-- an RD of 0 or 1 is not refused by itself
refusal_is : (c : CommandNumbers) → c.rd ≤ 1 → numbers_refusal c ≡ legality c.code c.count c.words
unfolding numbers_refusal
refusal_is c l =
    let n = legality c.code c.count c.words in
    rw (le-leb c.rd 1 l) (test (eqb n 0) (λ t. rw t (sym (eqb-true n 0 t))) (λ f. rw f))

number_small : (b : Bool) → rd_number b ≤ 1
number_small true = omega arith
number_small false = omega arith

number_back : (b : Bool) → eqb (rd_number b) 1 ≡ b
number_back true = refl
number_back false = refl

-- the numbers of an answer are refused as its values are, and are their bytes
pub numbers_again : (answer : Result Command Refusal)
    → let c = values_of answer in
    (numbers_refusal (command_numbers answer) ≡ legality c.code c.count c.words)
    × (numbers_bytes (command_numbers answer) ≡ command_bytes c.rd c.code c.count c.words)
unfolding numbers_bytes
numbers_again answer =
    let c = values_of answer in
    (refusal_is (command_numbers answer) (number_small c.rd), rw (number_back c.rd))
