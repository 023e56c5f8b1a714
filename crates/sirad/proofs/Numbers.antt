-- The laws of hex digits and numbers of any width: the digits left are judged with the number so far in front of them.
use Rattle.std.proofs.Common.{true, ◌≡◌, sym, ℕ, suc, ◌+◌, ◌*◌, ◌-◌, ◌^◌, ◌<◌, ◌≤◌, arith}
use native.Mathlib.Nat.{pow-le-pow_right, lt_of_lt_of_le}
use Rattle.digits.specs.Bytes.{is_hex}
use Rattle.digits.specs.Hex.{digit}
use Rattle.digits.proofs.Choices.{both_ways}
use Rattle.digits.proofs.HexLaws.{Hexness, low, high, none, hexness}
use Rattle.form.specs.Form.{whole, ◌>>=◌}
use Rattle.form.specs.Pieces.{one}
use Rattle.sirad.specs.Sirad.{number}

-- -- Digits

module _ (b : ℕ) (hex : is_hex b ≡ true) where
  -- below `A` a digit is a figure
  pub digit_figure : b < 65 → b - 48 ≡ digit b
  digit_figure l = go (hexness b)
    where
      go : Hexness b → b - 48 ≡ digit b
      go (low p q t d) = sym d
      go (high p q t d) = absurd (omega arith)
      go (none f d) = both_ways (is_hex b) hex f

  -- from `A` on it is a letter
  pub digit_letter : 65 ≤ b → b - 55 ≡ digit b
  digit_letter l = go (hexness b)
    where
      go : Hexness b → b - 55 ≡ digit b
      go (low p q t d) = absurd (omega arith)
      go (high p q t d) = sym d
      go (none f d) = both_ways (is_hex b) hex f

-- -- Numbers

-- up to seven digits fit 28 bits
pub number_fits : (i n v : ℕ) → i < n → n ≤ 7 → v < 16 ^ i → v < 2 ^ 24
number_fits i n v h l e = lt_of_lt_of_le e (pow-le-pow_right {n = 16} (omega arith) {j = 6} (omega arith))

-- behind i digits of n, which are the number v, the next one is judged, and then the others
pub number_next : (i n v : ℕ) → i < n → number (n - i) v ≡ (one 12 is_hex >>= (λ b. number (n - (i + 1)) (v * 16 + digit b)))
unfolding number ◌>>=◌
number_next i n v h = let e : n - i ≡ suc (n - (i + 1)) = omega arith in rw e

-- behind all digits
pub number_over : (i n v : ℕ) → n ≤ i → number (n - i) v ≡ whole v
unfolding number
number_over i n v h = let e : n - i ≡ 0 = omega arith in rw e
