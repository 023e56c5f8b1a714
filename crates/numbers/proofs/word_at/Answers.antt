-- Each return is one law: no four bytes, no four bytes, the four bytes joined.
use mathlib.Core.Path.{◌∙◌, sym}
use native.Mathlib.Omega.{arith}
use Rattle.digits.proofs.LittleEndianLaws.{word_missing, word_joined}
use Rattle.numbers.proofs.word_at.Goals as goal

pub returns-then-s-at : goal.returns-then-s-at
returns-then-s-at c = sym (word_missing _ _ (omega arith))

pub returns-then-s-at-lt4 : goal.returns-then-s-at-lt4
returns-then-s-at-lt4 c = sym (word_missing _ _ (omega arith))

pub returns : goal.returns
returns c = c.join.ensures ∙ sym (word_joined _ _ (omega arith))
