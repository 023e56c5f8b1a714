-- A float's bits without the sign: they give exponent and fraction, and rise with the magnitude.
-- 2 ^ -12 m has the bits 39800000, 1000 m has 447A0000 (a significand of 16384000 at scale 136), infinity has 7F800000.
use Rattle.std.proofs.Common.{◌≡◌, ℕ, ◌+◌, ◌*◌, ◌%◌, ◌^◌, ◌<◌, ◌≤◌, eqb, ltb, leb, sym, ◌∙◌, le_trans, lt_of_lt_of_le}
use Rattle.std.proofs.Common.{lt_of_le_of_lt, le_of_lt, mul-le-mul_right, mod-lt, mul-le-mul, mul-le-mul_left}
use Rattle.std.proofs.Common.{mul-lt-mul_of_pos_right, arith, lit<, lit≤, pow_mono, ltb-false, ltb-true, le-ltb, lt-ltb, eq-eqb}
use Rattle.std.proofs.Common.{ne_eqb, leb-false, leb-true}
use Rattle.digits.proofs.Choices.{test}
use Rattle.units.specs.Float.{exponent, fraction, not_finite, significand, scale, magnitude}

module _ (bits : ℕ) where
  -- a significand has 24 bits
  significand_small : significand bits < 2 ^ 24
  unfolding significand
  significand_small =
      let h : fraction bits < 2 ^ 23 = mod-lt bits {m = 2 ^ 23} (lit< tt) in
      test (eqb (exponent bits) 0) (λ t. simp t (omega arith)) (λ t. simp t (omega arith))

  -- a subnormal number has scale 1, any other its exponent
  scale_most : (t : ℕ) → 0 < t → exponent bits ≤ t → scale bits ≤ t
  unfolding scale
  scale_most t h low =
      test (eqb (exponent bits) 0) (λ u. simp u (omega arith)) (λ u. simp u (omega arith))

  -- a normal magnitude
  pub normal : 0 < exponent bits → magnitude bits ≡ (2 ^ 23 + fraction bits) * 2 ^ exponent bits
  unfolding significand scale
  normal h = simp (ne_eqb (exponent bits) 0 (omega arith))

  -- up to the exponent t the magnitude is at most 2 ^ 24 at that scale
  pub magnitude_most : (t : ℕ) → 0 < t → exponent bits ≤ t → magnitude bits ≤ 2 ^ 24 * 2 ^ t
  magnitude_most t h low = mul-le-mul (le_of_lt significand_small) (pow_mono {i = scale bits} {j = t} (scale_most t h low))

  -- -- 1000 m

  -- over 1000 m
  over_limit : 0x447A0000 < bits % 2 ^ 31 → 1000 * 2 ^ 150 < magnitude bits
  over_limit h =
      rw (normal (omega arith))
      (test
      (ltb 136 (exponent bits))
      (λ t. lt_of_lt_of_le (lit< {n = 2 ^ 23 * 2 ^ 137} tt) (mul-le-mul {n₁ = 2 ^ 23} {m₁ = 2 ^ 137} (omega arith)
      (pow_mono {i = 137} {j = exponent bits} (ltb-true 136 (exponent bits) t))))
      (λ t.
      let e : exponent bits ≡ 136 = omega (arith, ltb-false 136 (exponent bits) t) in
      let f : 16384000 < 2 ^ 23 + fraction bits = omega (arith, e) in
      rw e (mul-lt-mul_of_pos_right {m = 16384000} {k = 2 ^ 136} f (lit< tt))))

  -- at most 1000 m
  pub within_limit : bits % 2 ^ 31 ≤ 0x447A0000 → magnitude bits ≤ 1000 * 2 ^ 150
  within_limit h =
      test
      (ltb (exponent bits) 136)
      (λ t. le_trans (magnitude_most 135 (lit< tt) (omega (arith, ltb-true (exponent bits) 136 t))) (lit≤ tt))
      (λ t.
      let e : exponent bits ≡ 136 = omega (arith, ltb-false (exponent bits) 136 t) in
      let f : 2 ^ 23 + fraction bits ≤ 16384000 = omega (arith, e) in
      rw (normal (omega arith), e) (mul-le-mul_right {n = 16384000} (2 ^ 136) f))

  -- the bits compare with 1000 m as the magnitude does
  pub limit_bits : ltb (1000 * 2 ^ 150) (magnitude bits) ≡ ltb 0x447A0000 (bits % 2 ^ 31)
  limit_bits =
      test
      (ltb 0x447A0000 (bits % 2 ^ 31))
      (λ t. lt-ltb (1000 * 2 ^ 150) (magnitude bits) (over_limit (ltb-true 0x447A0000 (bits % 2 ^ 31) t)) ∙ sym t)
      (λ t. le-ltb (1000 * 2 ^ 150) (magnitude bits) (within_limit (ltb-false 0x447A0000 (bits % 2 ^ 31) t)) ∙ sym t)

  -- -- Infinity

  -- infinite or no number, by the bits
  pub infinite_bits : not_finite bits ≡ leb 0x7F800000 (bits % 2 ^ 31)
  infinite_bits =
      test
      (leb 0x7F800000 (bits % 2 ^ 31))
      (λ t. eq-eqb (exponent bits) 255 (omega (arith, leb-true 0x7F800000 (bits % 2 ^ 31) t)) ∙ sym t)
      (λ t. ne_eqb (exponent bits) 255 (λ e. omega (arith, e, leb-false 0x7F800000 (bits % 2 ^ 31) t)) ∙ sym t)

  -- -- 2 ^ -12 m

  -- a magnitude below 2 ^ -12 m is below half a millimetre
  pub below_least : bits % 2 ^ 31 < 0x39800000 → 2 * (1000 * magnitude bits) < 2 ^ 150
  below_least h =
      lt_of_le_of_lt (mul-le-mul_left 2 (mul-le-mul_left 1000 (magnitude_most 114 (lit< tt) (omega arith)))) (lit< tt)
