-- What bytes say as a command, or their refusal (paper 01, "DemoRad" and "Refusal numbers").
use Rattle.std.specs.Prelude.{Bool, false, cond, not, List, [], ◌∷◌, ◌++◌, ℕ, zero, suc, ◌-◌, ◌*◌, ◌/◌, ◌%◌, ◌^◌, eqb, ltb, length}
use Rattle.std.specs.Prelude.{take, drop, replicate, Result, Ok, Err, ⊤}
use Rattle.std.specs.Result.{result_and}
use Rattle.refusals.specs.Numbers.{refusal_number}
use Rattle.refusals.specs.declared.Refusal.{Refusal}
use Rattle.refusals.specs.declared.Refusal.TheVariants.{CommandTooShort, RestBitSet, LengthZero, WrongSize}
use Rattle.digits.specs.LittleEndian.{from_little, word_at}
use Rattle.demorad.specs.Rules.{max_payload, checked, legality}
use Rattle.demorad.specs.declared.Command.{Command}

-- -- The header's fields (document 001, tables 2 to 5)

-- n bits of v from bit low on, as a number
abbrev pub bits : ℕ → ℕ → ℕ → ℕ
bits low n v = v / 2 ^ low % 2 ^ n

-- bit 31
abbrev pub rd_of : ℕ → Bool
rd_of header = eqb (bits 31 1 header) 1

-- the rest bits, 30 to 21
abbrev pub rest_of : ℕ → ℕ
rest_of header = bits 21 10 header

-- the length in words with the header, bits 20 to 16
abbrev pub length_of : ℕ → ℕ
length_of header = bits 16 5 header

-- the code, bits 15 to 0
abbrev pub code_of : ℕ → ℕ
code_of header = bits 0 16 header

-- -- The bytes

-- the header word: the first four bytes
abbrev pub header_of : List ℕ → ℕ
header_of bs = word_at bs 0

-- the payload count: the length without the header
abbrev pub count_of : List ℕ → ℕ
count_of bs = length_of (header_of bs) - 1

-- n words, four bytes each, byte 0 first
unfoldable pub words_of : ℕ → List ℕ → List ℕ
words_of zero bs = []
words_of (suc n) bs = from_little (take 4 bs) ∷ words_of n (drop 4 bs)

-- the payload words
abbrev pub payload_of : List ℕ → List ℕ
payload_of bs = words_of (count_of bs) (drop 4 bs)

-- thirty words by value, the unused ones 0
unfoldable pub padded : List ℕ → List ℕ
padded words = words ++ replicate (max_payload - length words) 0

-- -- Reading

-- whether bytes are framed as a command (paper 01, "Refusal numbers": 40 to 43 rising)
unfoldable pub framed : List ℕ → Result ⊤ Refusal
framed bs =
    cond (ltb (length bs) 4) (Err CommandTooShort)
    (cond (not (eqb (rest_of (header_of bs)) 0)) (Err RestBitSet)
    (cond (eqb (length_of (header_of bs)) 0) (Err LengthZero)
    (cond (not (eqb (length bs) (4 * length_of (header_of bs)))) (Err WrongSize) (Ok tt))))

-- the refusal of bytes before code and payload are looked at; 0 for none
abbrev pub framing : List ℕ → ℕ
framing bs = refusal_number (framed bs)

-- the refusal of bytes; 0 for none
unfoldable pub read_refusal : List ℕ → ℕ
read_refusal bs = cond (eqb (framing bs) 0) (legality (code_of (header_of bs)) (count_of bs) (payload_of bs)) (framing bs)

-- a command of these values
abbrev pub command : Bool → ℕ → ℕ → List ℕ → Command
command rd code count words = record { rd = rd; code = code; count = count; words = words }

-- what reading the bytes answers: RD, code, payload count and thirty words (paper 01, "DemoRad"), or the first refusal
unfoldable pub read_command : List ℕ → Result Command Refusal
read_command bs =
    result_and (framed bs)
    (result_and (checked (code_of (header_of bs)) (count_of bs) (payload_of bs))
    (Ok (command (rd_of (header_of bs)) (code_of (header_of bs)) (count_of bs) (padded (payload_of bs)))))

-- -- The numbers of an answer

-- every number 0
abbrev pub no_command : Command
no_command = command false 0 0 (replicate max_payload 0)

-- the values beside an answer's refusal number
abbrev pub values_of : Result Command Refusal → Command
values_of (Ok c) = c
values_of (Err r) = no_command

-- an answer as its refusal number and its values
abbrev pub answer_numbers : Result Command Refusal → ℕ × Command
answer_numbers answer = (refusal_number answer, values_of answer)

-- a refusal: its number, every other number 0 (paper 01, "Refusal numbers")
abbrev pub refused_command : ℕ → ℕ × Command
refused_command refusal = (refusal, no_command)
