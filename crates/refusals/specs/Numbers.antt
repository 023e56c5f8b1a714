-- The refusals' numbers (paper 01, "Refusal numbers"; paper 02, (ii), (iii), (iv) and (vi)).
use Rattle.std.specs.Prelude.{ℕ, Result, Ok, Err}
use Rattle.refusals.specs.declared.Refusal.{Refusal}
use Rattle.refusals.specs.declared.Refusal.TheVariants.{UnknownDialect, BeyondEnd, TooManyBytes, NotOneFrame, NoSuchIndex, NoPoints, NotFinite}
use Rattle.refusals.specs.declared.Refusal.TheVariants.{TooFar, UnknownEdition, TooDistant, CommandTooShort, RestBitSet, LengthZero}
use Rattle.refusals.specs.declared.Refusal.TheVariants.{WrongSize, UnknownCode, WrongCount, WrongSelection, NoEncoding, OutputTooShort, TooManyCharacters}
use Rattle.refusals.specs.declared.Refusal.TheVariants.{UnknownKind, WrittenAsEmpty, CarryTooShort, TableTooShort, BadStream}

-- a refusal's number in the papers' list
abbrev pub number : Refusal → ℕ
number UnknownDialect = 1
number BeyondEnd = 2
number TooManyBytes = 3
number NotOneFrame = 5
number NoSuchIndex = 6
number NoPoints = 7
number NotFinite = 30
number TooFar = 31
number UnknownEdition = 32
number TooDistant = 33
number CommandTooShort = 40
number RestBitSet = 41
number LengthZero = 42
number WrongSize = 43
number UnknownCode = 44
number WrongCount = 45
number WrongSelection = 46
number NoEncoding = 50
number OutputTooShort = 51
number TooManyCharacters = 52
number UnknownKind = 53
number WrittenAsEmpty = 54
number CarryTooShort = 60
number TableTooShort = 61
number BadStream = 62

-- the refusal number of an answer: 0 where there is none (paper 01, "Refusal numbers")
abbrev pub refusal_number : {A : Type 0} → Result A Refusal → ℕ
refusal_number (Ok x) = 0
refusal_number (Err r) = number r
