-- A coordinate's millimetres rise with its bits: the magnitude with the bits without the sign, the nearest whole number with the value.
use Rattle.std.proofs.Common.{◌≡◌, ℕ, ◌+◌, ◌*◌, ◌/◌, ◌%◌, ◌^◌, ◌<◌, ◌≤◌, ap, le_trans, mul-le-mul_right, mul-le-mul, le_antisymm}
use Rattle.std.proofs.Common.{arith, pow_mono, pow-add, eq-eqb}
use native.Mathlib.Decide.{dec_lt}
use Rattle.units.specs.Float.{exponent, fraction, significand, scale, magnitude}
use Rattle.units.specs.Rounding.{Ties, nearest}
use Rattle.units.proofs.Bits.{normal, magnitude_most}
use Rattle.units.proofs.Rounding.{bounds, next, half_most}

-- the nearest whole number rises with the value: were it less for a greater one, both would lie at the same half
pub nearest_rises : (ties : Ties) (n m d : ℕ) → 0 < d → n ≤ m → nearest ties n d ≤ nearest ties m d
nearest_rises ties n m d h l = by_order (dec_lt (nearest ties m d) (nearest ties n d))
  where
    by_order : Dec (nearest ties m d < nearest ties n d) → nearest ties n d ≤ nearest ties m d
    by_order (no g) = omega arith
    by_order (yes g) =
        let low = (bounds ties n d h).0 in
        let high = (bounds ties m d h).1 in
        let up = half_most ties (n / d) in
        let one = next d (nearest ties m d) (nearest ties n d) g in
        let same : n ≡ m = le_antisymm l (omega arith) in
        absurd (omega (arith, ap (λ (x : ℕ). nearest ties x d) same))

-- a subnormal magnitude
subnormal : (bits : ℕ) → exponent bits ≡ 0 → magnitude bits ≡ fraction bits * 2 ^ 1
unfolding significand scale
subnormal bits e = rw (eq-eqb (exponent bits) 0 e)

-- below an exponent the magnitude is at most the least one with that exponent
magnitude_below : (bits t : ℕ) → exponent bits < t → magnitude bits ≤ 2 ^ 23 * 2 ^ t
magnitude_below bits t g = by_exponent (dec_lt 0 (exponent bits))
  where
    by_exponent : Dec (0 < exponent bits) → magnitude bits ≤ 2 ^ 23 * 2 ^ t
    by_exponent (yes p) =
        le_trans (magnitude_most bits (exponent bits) p (omega arith))
        (rw (← pow-add 2 24 (exponent bits), ← pow-add 2 23 t) (pow_mono {i = 24 + exponent bits} {j = 23 + t} (omega arith)))
    by_exponent (no p) = rw (subnormal bits (omega arith)) (mul-le-mul {m₁ = 2 ^ 1} (omega arith) (pow_mono {i = 1} {j = t} (omega arith)))

-- the magnitude rises with the bits without the sign
pub magnitude_rises : (a b : ℕ) → a % 2 ^ 31 ≤ b % 2 ^ 31 → magnitude a ≤ magnitude b
magnitude_rises a b l = by_exponent (dec_lt (exponent a) (exponent b)) (dec_lt 0 (exponent b))
  where
    by_exponent : Dec (exponent a < exponent b) → Dec (0 < exponent b) → magnitude a ≤ magnitude b
    by_exponent (yes g) p =
        le_trans (magnitude_below a (exponent b) g) (rw (normal b (omega arith)) (mul-le-mul_right (2 ^ exponent b) (omega arith)))
    by_exponent (no g) (yes p) =
        let e : exponent a ≡ exponent b = omega arith in
        rw (normal a (omega arith), normal b p, e) (mul-le-mul_right (2 ^ exponent b) (omega arith))
    by_exponent (no g) (no p) =
        let e : exponent b ≡ 0 = omega arith in
        let f : exponent a ≡ 0 = omega arith in
        rw (subnormal a f, subnormal b e) (mul-le-mul_right (2 ^ 1) (omega arith))
