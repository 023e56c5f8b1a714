-- What the functions' proofs apply: the code's shifts and limits against the definitions, over plain variables.
use Rattle.std.proofs.Common.{◌≡◌, ℕ, suc, ◌+◌, ◌-◌, ◌*◌, ◌/◌, ◌%◌, ◌^◌, ◌<◌, ◌≤◌, Bool, true, false, ltb, leb, pos}
use Rattle.std.proofs.Common.{sym, refl, ap, ◌∙◌, lt_of_le_of_lt, mul_assoc, suc-mul, mul_comm, div-lt_iff_lt-mul}
use Rattle.std.proofs.Common.{mul-le-mul, mul-le-mul_left, mul_left_comm, arith, lit<, pow_mono, pow-add}
use Rattle.std.proofs.Common.{ltb-false, ltb-true, le-ltb, lt-ltb, le-leb, leb-false, leb-true}
use native.Mathlib.Nat.{div-eq_of_lt}
use borrow.Author.Tests.{lt-leb}
use denote.Enum.Bare.{sameb}
use Rattle.digits.proofs.Choices.{test, both_ways}
use Rattle.units.specs.contracts.Ties.{the_type}
use Rattle.units.specs.Rounding.{signed, Ties, ToAway, ToEven, half_up, nearest}
use Rattle.units.specs.Float.{negative, exponent, fraction, magnitude}
use Rattle.refusals.specs.Numbers.{refusal_number}
use Rattle.units.specs.Units.{value, refused, quantity_of, coordinate}
use Rattle.units.specs.Internal.{Inside, parts, outside}
use Rattle.units.proofs.Rounding.{half_most, fixed, nearest_scaled}
use Rattle.units.proofs.Bits.{normal, within_limit, limit_bits, infinite_bits, below_least}

-- -- Rounding

-- a value below the half rounds to 0
near_zero : (ties : Ties) (n d : ℕ) → 2 * n < d → nearest ties n d ≡ 0
unfolding nearest
near_zero ties n d h = div-eq_of_lt (omega (arith, half_most ties (n / d)))

-- a value of at most q rounds to at most q
nearest_most : (ties : Ties) (n d q : ℕ) → 0 < d → n ≤ q * d → nearest ties n d ≤ q
unfolding nearest
nearest_most ties n d q h most =
    let e : suc q * (2 * d) ≡ 2 * (q * d) + 2 * d = suc-mul q (2 * d) ∙ ap (λ (x : ℕ). x + 2 * d) (mul_left_comm q 2 d) in
    let a : ℕ = 2 * n + (d - 1) + half_up ties (n / d) in
    let wide : a < suc q * (2 * d) = omega (arith, half_most ties (n / d)) in
    let lt : a / (2 * d) < suc q = (div-lt_iff_lt-mul {k = 2 * d} {x = a} {y = suc q} (omega arith)).1 wide in
    omega arith

-- -- Parts: 2 ^ 32 of them are a millimetre

module _ (ties : Ties) (p : ℕ) where
  -- with a rest below the half there is no tie
  pub off_half : (p % 2 ^ 31 ≡ 0 → ⊥) → (p + 2 ^ 31) / 2 ^ 32 ≡ nearest ties p (2 ^ 32)
  off_half h =
      let up = half_most ties (p / 2 ^ 32) in
      let rest : ℕ = (p + 2 ^ 31) % 2 ^ 32 in
      test
      (ltb 0 rest)
      (λ t.
      let some : 0 < rest = ltb-true 0 rest t in
      sym (fixed ties p (2 ^ 32) ((p + 2 ^ 31) / 2 ^ 32) (lit< tt) (omega arith) (omega arith)))
      (λ t. absurd (h (omega (arith, ltb-false 0 rest t))))

  -- with none the value is a number of halves
  pub in_halves : p % 2 ^ 31 ≡ 0 → nearest ties (p / 2 ^ 31) 2 ≡ nearest ties p (2 ^ 32)
  in_halves h =
      sym (nearest_scaled ties (p / 2 ^ 31) 2 (2 ^ 31) (lit< tt) (lit< tt)) ∙ ap (λ (x : ℕ). nearest ties x (2 ^ 32)) (omega arith)

-- away from zero halves go up, as all that is over one
half_away : (p : ℕ) → (p + 2 ^ 31) / 2 ^ 32 ≡ nearest ToAway p (2 ^ 32)
half_away p = sym (fixed ToAway p (2 ^ 32) ((p + 2 ^ 31) / 2 ^ 32) (lit< tt) (omega arith) (omega arith))

-- so they do by every other rule
pub half_over : (ties : Ties) (p : ℕ) → sameb the_type ties ToEven ≡ false → (p + 2 ^ 31) / 2 ^ 32 ≡ nearest ties p (2 ^ 32)
half_over ToAway p h = half_away p
half_over ToEven p h = absurd (both_ways true refl h)

-- -- Accuracy

-- an accuracy's millimetres are few
pub accuracy_small : (ties : Ties) (tenths q : ℕ) → tenths < 2 ^ 16 → q ≡ nearest ties tenths 10 → q < 2 ^ 16
accuracy_small ties tenths q h e =
    rw e (lt_of_le_of_lt (nearest_most ties tenths 10 6554 (lit< tt) (omega arith)) (lit< tt))

-- -- The sign

-- both zeros are 0
signed_zero : (negative : Bool) → signed negative 0 ≡ pos 0
signed_zero true = refl
signed_zero false = refl

-- -- A coordinate: `over` is what the bits without the sign are over those of 2 ^ -12 m

-- the difference that wraps, without the sign
pub over_near : (difference bits : ℕ) → (difference + 0x39800000) % 2 ^ 32 ≡ bits
    → (difference % 2 ^ 31 + 0x39800000) % 2 ^ 31 ≡ bits % 2 ^ 31
over_near difference bits wraps = omega arith

-- outside 2 ^ -12 m to 1000 m
pub coordinate_outside : (ties : Ties) (bits over : ℕ) → (over + 0x39800000) % 2 ^ 31 ≡ bits % 2 ^ 31 → over < 2 ^ 31
    → 0x447A0000 - 0x39800000 < over → quantity_of (outside over) ≡ coordinate ties bits
unfolding coordinate
coordinate_outside ties bits over near fits far =
    rw (infinite_bits bits, limit_bits bits)
    (test
    (leb (2 ^ 31 - 0x39800000) over)
    (λ t.
    let below = leb-true (2 ^ 31 - 0x39800000) over t in
    let least : bits % 2 ^ 31 < 0x39800000 = omega arith in
    simp (
      t,
      lt-leb 0x7F800000 (bits % 2 ^ 31) (omega arith),
      le-ltb 0x447A0000 (bits % 2 ^ 31) (omega arith),
      near_zero ties (1000 * magnitude bits) (2 ^ 150) (below_least bits least),
      signed_zero (negative bits),
    ))
    (λ t.
    let above = leb-false (2 ^ 31 - 0x39800000) over t in
    test
    (leb (0x7F800000 - 0x39800000) over)
    (λ u.
    let infinite = leb-true (0x7F800000 - 0x39800000) over u in
    simp (t, u, le-leb 0x7F800000 (bits % 2 ^ 31) (omega arith)))
    (λ u.
    let finite = leb-false (0x7F800000 - 0x39800000) over u in
    simp (t, u, lt-leb 0x7F800000 (bits % 2 ^ 31) (omega arith), lt-ltb 0x447A0000 (bits % 2 ^ 31) (omega arith)))))

-- in numbers: the refusal's, and the value 0
outside_numbers : (over : ℕ) → refused (refusal_number (outside over)) ≡ quantity_of (outside over)
outside_numbers over =
    test
    (leb (2 ^ 31 - 0x39800000) over)
    (λ t. simp t)
    (λ t. test (leb (0x7F800000 - 0x39800000) over) (λ u. simp (t, u)) (λ u. simp (t, u)))

-- so is what is outside by its number
pub quantity_outside : (ties : Ties) (bits over n : ℕ) → n ≡ refusal_number (outside over) → 0x447A0000 - 0x39800000 < over
    → (over + 0x39800000) % 2 ^ 31 ≡ bits % 2 ^ 31 → over < 2 ^ 31 → refused n ≡ coordinate ties bits
quantity_outside ties bits over n e far near fits = ap refused e ∙ outside_numbers over ∙ coordinate_outside ties bits over near fits far

-- 125 * 2 ^ 118 is 1000 * 2 ^ 115
scaled : (m s : ℕ) → 125 * m * 2 ^ s * 2 ^ 118 ≡ 1000 * (m * 2 ^ (115 + s))
scaled m s =
    mul_comm (125 * m * 2 ^ s) (2 ^ 118)
    ∙ ap (λ (x : ℕ). 2 ^ 118 * x) (mul_assoc 125 m (2 ^ s))
    ∙ sym (mul_assoc (2 ^ 118) 125 (m * 2 ^ s))
    ∙ mul_assoc 1000 (2 ^ 115) (m * 2 ^ s)
    ∙ ap (λ (x : ℕ). 1000 * x) (mul_left_comm (2 ^ 115) m (2 ^ s) ∙ ap (λ (x : ℕ). m * x) (sym (pow-add 2 115 s)))

-- inside
module _ (bits over : ℕ) (inside : Inside bits over) where
  -- no part is lost in the shift
  pub parts_less : parts bits over < 2 ^ 53
  unfolding parts
  parts_less =
      lt_of_le_of_lt
      (mul-le-mul {n₂ = 2 ^ 31} {m₂ = 2 ^ 21} (omega arith) (pow_mono {i = over / 2 ^ 23} {j = 21} (omega (arith, inside))))
      (lit< tt)

  -- 2 ^ 118 of them to the smallest unit of a magnitude
  parts_scaled : parts bits over * 2 ^ 118 ≡ 1000 * magnitude bits
  unfolding parts
  parts_scaled =
      let e : exponent bits ≡ 115 + over / 2 ^ 23 = omega (arith, inside) in
      rw (normal bits (omega (arith, e)), e) (scaled (2 ^ 23 + fraction bits) (over / 2 ^ 23))

  -- the rounding of the parts is that of the exact value
  pub parts_are : (ties : Ties) (p : ℕ) → p ≡ parts bits over
      → nearest ties p (2 ^ 32) ≡ nearest ties (1000 * magnitude bits) (2 ^ 150)
  parts_are ties p e =
      rw e
      (sym (nearest_scaled ties (parts bits over) (2 ^ 32) (2 ^ 118) (lit< tt) (lit< tt))
      ∙ ap (λ (x : ℕ). nearest ties x (2 ^ 150)) parts_scaled)

-- at most 1000 m
module _ (ties : Ties) (bits q : ℕ) (most : bits % 2 ^ 31 ≤ 0x447A0000) (e : q ≡ nearest ties (1000 * magnitude bits) (2 ^ 150)) where
  -- at most a million millimetres
  pub whole_small : q ≤ 1000000
  whole_small = rw e (nearest_most ties (1000 * magnitude bits) (2 ^ 150) 1000000 (lit< tt) (mul-le-mul_left 1000 (within_limit bits most)))

  -- the value that is not refused
  pub coordinate_inside : value (signed (negative bits) q) ≡ coordinate ties bits
  unfolding coordinate
  coordinate_inside =
      rw (
        e,
        infinite_bits bits,
        limit_bits bits,
        lt-leb 0x7F800000 (bits % 2 ^ 31) (omega (arith, most)),
        le-ltb 0x447A0000 (bits % 2 ^ 31) most,
      ) refl
