-- The command codes with their rules, and the legality of a command (document 001, section 5; paper 01, "DemoRad").
use Rattle.std.specs.Prelude.{cond, List, [], ◌∷◌, ℕ, eqb, ltb, get_or, Option, Some, None, Result, Ok, Err, ⊤}
use Rattle.refusals.specs.Numbers.{refusal_number}
use Rattle.refusals.specs.declared.Refusal.{Refusal}
use Rattle.refusals.specs.declared.Refusal.TheVariants.{UnknownCode, WrongCount, WrongSelection}
use Rattle.digits.specs.Bytes.{within}
use Rattle.demorad.specs.declared.Rule.{Rule}
use Rattle.demorad.specs.declared.Selection.{Selection}

-- -- The codes (document 001, table 6)

-- enable test data (document 001, section 5.1)
abbrev pub dsp_en_tst_dat : ℕ
dsp_en_tst_dat = 0x6005

-- configuration (document 001, section 5.2)
abbrev pub dsp_set_adicfg : ℕ
dsp_set_adicfg = 0x6006

-- calibration data (document 001, section 5.3)
abbrev pub dsp_wr_cal_dat : ℕ
dsp_wr_cal_dat = 0x6007

-- board status (document 001, section 5.4)
abbrev pub dsp_get_sts : ℕ
dsp_get_sts = 0x6008

-- chirp data (document 001, section 5.5)
abbrev pub dsp_get_chirp : ℕ
dsp_get_chirp = 0x7003

-- version (document 001, section 5.6)
abbrev pub get_vers_inf : ℕ
get_vers_inf = 0x900E

-- a row of SPI data (document 001, section 5.7)
abbrev pub dsp_set_spi : ℕ
dsp_set_spi = 0x9017

-- -- Their rules

-- the most payload words: a length of five bits, the header counted (paper 01, "DemoRad": lengths 1 to 31)
abbrev pub max_payload : ℕ
max_payload = 30

-- from least to most payload words of any value
abbrev pub counts : ℕ → ℕ → Rule
counts least most = record { least = least; most = most; selection = None }

-- from least to most payload words, of which word index, counted from 0, is a selection from 0 to top
abbrev pub selects : ℕ → ℕ → ℕ → ℕ → Rule
selects least most index top = record { least = least; most = most; selection = Some (record { index = index; top = top }) }

-- the rules (paper 01, "DemoRad"; document 001, tables 7 to 16)
abbrev pub rules : List (ℕ × Rule)
rules =
    (dsp_en_tst_dat, counts 1 1)
    ∷ (dsp_set_adicfg, selects 1 1 0 4)
    ∷ (dsp_wr_cal_dat, selects 1 max_payload 0 3)
    ∷ (dsp_get_sts, counts 0 max_payload)
    ∷ (dsp_get_chirp, counts 2 2)
    ∷ (get_vers_inf, counts 0 max_payload)
    ∷ (dsp_set_spi, selects 2 max_payload 1 3)
    ∷ []

-- the rule that the table has for a code; none for a code that document 001 does not list
abbrev pub lookup : ℕ → List (ℕ × Rule) → Option Rule
lookup code [] = None
lookup code (row ∷ rows) = cond (eqb code row.0) (Some row.1) (lookup code rows)

-- the rule of a code
unfoldable pub rule_of : ℕ → Option Rule
rule_of code = lookup code rules

-- -- Legality

-- the word that selects
abbrev pub selected : Selection → List ℕ → ℕ
selected selection words = get_or words selection.index 0

-- what a rule's selection says of the words (paper 01, "Refusal numbers": 46)
abbrev pub chosen : Option Selection → List ℕ → Result ⊤ Refusal
chosen None words = Ok tt
chosen (Some selection) words = cond (ltb selection.top (selected selection words)) (Err WrongSelection) (Ok tt)

-- what a code's rule says of a command (paper 01, "Refusal numbers": 44, 45, 46 in this order)
abbrev pub judged : Option Rule → ℕ → List ℕ → Result ⊤ Refusal
judged None count words = Err UnknownCode
judged (Some rule) count words = cond (within rule.least rule.most count) (chosen rule.selection words) (Err WrongCount)

-- what a command is answered by its code, payload count and words
unfoldable pub checked : ℕ → ℕ → List ℕ → Result ⊤ Refusal
checked code count words = judged (rule_of code) count words

-- the refusal of a command by its code, payload count and words; 0 for none
abbrev pub legality : ℕ → ℕ → List ℕ → ℕ
legality code count words = refusal_number (checked code count words)
