-- The number rules round as paper 01, "Numbers", says: each is the theorem on rounding at the rule's own fraction.
use Rattle.std.proofs.Common.{◌≡◌, ℕ, suc, ◌*◌, ◌^◌, ◌<◌, ◌≤◌, Bool, true, false, cond, eqb, ltb, ◌⊎◌, ◌↔◌, ℤ, pos, ◌≤ℤ◌, sym, refl}
use Rattle.std.proofs.Common.{ap, ◌∙◌, inl, inr, arith, lit<, le→leb, ltb-false, ltb-true, le-ltb, lt-ltb, eq-eqb, ne_eqb, eqb-true}
use Rattle.std.specs.Prelude.{Ok, Err}
use Rattle.std.specs.Result.{result_unwrap_or}
use borrow.Author.Tests.{eqb-false}
use Rattle.refusals.specs.declared.Refusal.{Refusal}
use Rattle.refusals.specs.Numbers.{number, refusal_number}
use Rattle.refusals.proofs.NumberLaws.{number_ne0}
use Rattle.digits.specs.Bytes.{is_character}
use Rattle.digits.proofs.Choices.{test, either, both_ways, within_bounds}
use Rattle.units.specs.Rounding.{distance, signed, Nearest, Half, Ties, ToAway, ToEven, Rounds, nearest}
use Rattle.units.specs.declared.Quantity.{Quantity}
use Rattle.units.specs.Float.{negative, exponent, not_finite, magnitude}
use Rattle.units.specs.Units.{value, refused, centidegrees_of, centidegrees, is_edition, Edition, ties_of, ties_named, accuracy_of}
use Rattle.units.specs.Units.{accuracy_millimetres, RoundsMillimetres, HalfMillimetre, millimetres_of, coordinate, millimetres}
use Rattle.units.proofs.Rounding.{ties_differ, nearest_is_nearest, nearest_unique, nearest_along, rounds_exactly}

-- 1800 (c - 144) / 11 is never exactly between two whole numbers: a tie can't occur
pub phase_no_half : (c : ℕ) → Half (1800 * distance c 144) 11 → ⊥
unfolding Half
phase_no_half c half = omega (arith, half.1)

-- the phase that a character gives is the whole number nearest to 1800 (c - 144) / 11, and no other is
pub phase_nearest : (c : ℕ) → (centidegrees c).refusal ≡ 0 → (z : ℤ)
    → ((centidegrees c).value ≡ z) ↔ Nearest (ltb c 144) (1800 * distance c 144) 11 z
unfolding centidegrees
phase_nearest c h z = (
  λ e. rw (← e, given) closed,
  λ near. given ∙ nearest_unique (ltb c 144) (1800 * distance c 144) 11 (lit< tt) (phase_no_half c) _ z closed near,
)
  where
    closed : Nearest (ltb c 144) (1800 * distance c 144) 11 (centidegrees_of c)
    closed = nearest_is_nearest (ltb c 144) (1800 * distance c 144) 11 (lit< tt) ToAway

    given : (centidegrees c).value ≡ centidegrees_of c
    given =
        test
        (is_character c)
        (λ t. rw t)
        (λ f. let n : (centidegrees c).refusal ≡ 50 = rw f in absurd (omega arith))

-- -- Editions

-- there is an edition of this number exactly if it is 1 or 2
pub edition_exactly : (edition : ℕ) → (is_edition edition ≡ true) ↔ Edition edition
edition_exactly edition = (to, from)
  where
    to : is_edition edition ≡ true → Edition edition
    to t =
        let b = within_bounds 1 2 edition t in
        test
        (eqb edition 1)
        (λ u. inl (eqb-true edition 1 u))
        (λ u. inr (omega (arith, b, eqb-false edition 1 u)))

    from : Edition edition → is_edition edition ≡ true
    from (inl e) = rw e refl
    from (inr e) = rw e refl

-- and none exactly if it is neither
pub no_edition : (edition : ℕ) → (is_edition edition ≡ false) ↔ (Edition edition → ⊥)
no_edition edition = (
  λ f e. both_ways (is_edition edition) ((edition_exactly edition).1 e) f,
  λ n. test (is_edition edition) (λ t. absurd (n ((edition_exactly edition).0 t))) (λ f. f),
)

-- an edition that has a rule is 1 or 2
pub named : (edition : ℕ) (ties : Ties) → ties_named edition ≡ Ok ties → Edition edition
unfolding ties_named
named edition ties e =
    (edition_exactly edition).0
    (test
    (is_edition edition)
    (λ t. t)
    (λ f. let n : ◌≡◌ {A = ℕ} 32 0 = ap refusal_number (rw f at e) in absurd (omega arith)))

-- one that has none is neither, and refused with 32
pub unnamed : (edition : ℕ) (why : Refusal) → ties_named edition ≡ Err why → (number why ≡ 32) × (Edition edition → ⊥)
unfolding ties_named
unnamed edition why e =
    test
    (is_edition edition)
    (λ t. absurd (number_ne0 why (sym (ap refusal_number (rw t at e)))))
    (λ f. (sym (ap refusal_number (rw f at e)), (no_edition edition).0 f))

-- -- An accuracy's millimetres

module _ (edition tenths : ℕ) where
  -- no refusal exactly if the edition is 1 or 2
  pub accuracy_0 : (refusal_number (accuracy_millimetres edition tenths) ≡ 0) ↔ Edition edition
  unfolding accuracy_millimetres
  accuracy_0 = (
    λ h.
        (edition_exactly edition).0
        (test (is_edition edition) (λ t. t) (λ f. let n : ◌≡◌ {A = ℕ} 32 0 = rw f at h in absurd (omega arith))),
    λ e. rw ((edition_exactly edition).1 e),
  )

  -- else it is 32
  pub accuracy_32 : (refusal_number (accuracy_millimetres edition tenths) ≡ 32) ↔ (Edition edition → ⊥)
  unfolding accuracy_millimetres
  accuracy_32 = (
    λ h.
        (no_edition edition).0
        (test (is_edition edition) (λ t. let n : ◌≡◌ {A = ℕ} 0 32 = rw t at h in absurd (omega arith)) (λ f. f)),
    λ n. rw ((no_edition edition).1 n),
  )

  -- the millimetres of an answer are the closed form
  pub accuracy_given : (m : ℕ) → accuracy_millimetres edition tenths ≡ Ok m → m ≡ accuracy_of (ties_of edition) tenths
  unfolding accuracy_millimetres
  accuracy_given m h =
      let t = (edition_exactly edition).1 (accuracy_0.0 (ap refusal_number h)) in
      sym (ap (λ r. result_unwrap_or r 0) (rw t at h))

  -- the millimetres of an answer are the whole number nearest to tenths / 10, halves by the edition, and no other is
  pub accuracy_nearest : (m : ℕ) → accuracy_millimetres edition tenths ≡ Ok m → (z : ℤ)
      → (pos m ≡ z) ↔ Rounds (ties_of edition) false tenths 10 z
  accuracy_nearest m h z =
      let both = rounds_exactly false tenths 10 (lit< tt) (ties_of edition) z in
      let given = accuracy_given m h in
      (λ e. both.1 (sym e ∙ ap pos given), λ r. ap pos given ∙ sym (both.0 r))

-- the editions differ only at exact halves, and there by one (paper 02, (iv))
pub accuracy_editions : (tenths : ℕ)
    → (accuracy_millimetres 2 tenths ≡ accuracy_millimetres 1 tenths)
    ⊎ (Half tenths 10 × ((m : ℕ) × (accuracy_millimetres 2 tenths ≡ Ok m) × (accuracy_millimetres 1 tenths ≡ Ok (suc m))))
unfolding accuracy_millimetres ties_of
accuracy_editions tenths =
    either (ties_differ tenths 10 (lit< tt)) (λ e. inl (rw e)) (λ half. inr (half.0, (nearest ToEven tenths 10, refl, ap Ok half.1)))

-- edition 1 takes halves up: of all whole numbers nearest to tenths / 10 it is the greatest
pub accuracy_up : (tenths : ℕ) (y : ℤ) → Nearest false tenths 10 y → y ≤ℤ pos (accuracy_of ToAway tenths)
accuracy_up tenths y near =
    let a = nearest_along false tenths 10 (lit< tt) y near in
    rw a.1 record { le = le→leb a.0 (accuracy_of ToAway tenths) a.2 }

-- -- A coordinate's millimetres

-- the answer by its three tests
abbrev answer : Bool → Bool → Bool → ℤ → Quantity
answer known infinite far z = cond known (cond infinite (refused 30) (cond far (refused 31) (value z))) (refused 32)

unknown_told : (known infinite far : Bool) (z : ℤ) → (answer known infinite far z).refusal ≡ 32 → known ≡ false
unknown_told false infinite far z h = refl
unknown_told true true far z h = absurd (omega arith)
unknown_told true false true z h = absurd (omega arith)
unknown_told true false false z h = absurd (omega arith)

infinite_told : (known infinite far : Bool) (z : ℤ) → (answer known infinite far z).refusal ≡ 30 → (known ≡ true) × (infinite ≡ true)
infinite_told false infinite far z h = absurd (omega arith)
infinite_told true true far z h = (refl, refl)
infinite_told true false true z h = absurd (omega arith)
infinite_told true false false z h = absurd (omega arith)

far_told : (known infinite far : Bool) (z : ℤ) → (answer known infinite far z).refusal ≡ 31
    → (known ≡ true) × (infinite ≡ false) × (far ≡ true)
far_told false infinite far z h = absurd (omega arith)
far_told true true far z h = absurd (omega arith)
far_told true false true z h = (refl, refl, refl)
far_told true false false z h = absurd (omega arith)

value_told : (known infinite far : Bool) (z : ℤ) → (answer known infinite far z).refusal ≡ 0
    → (known ≡ true) × (infinite ≡ false) × (far ≡ false)
value_told false infinite far z h = absurd (omega arith)
value_told true true far z h = absurd (omega arith)
value_told true false true z h = absurd (omega arith)
value_told true false false z h = (refl, refl, refl)

module _ (edition bits : ℕ) where
  abbrev infinite : Bool
  infinite = not_finite bits

  abbrev far : Bool
  far = ltb (1000 * 2 ^ 150) (magnitude bits)

  abbrev z : ℤ
  z = millimetres_of (ties_of edition) bits

  -- 32 exactly if the edition is neither 1 nor 2
  pub millimetres_32 : ((millimetres edition bits).refusal ≡ 32) ↔ (Edition edition → ⊥)
  unfolding millimetres coordinate
  millimetres_32 = (
    λ h. (no_edition edition).0 (unknown_told (is_edition edition) infinite far z h),
    λ n. rw ((no_edition edition).1 n),
  )

  -- 30 exactly if the edition is 1 or 2 and the float is infinite or no number
  pub millimetres_30 : ((millimetres edition bits).refusal ≡ 30) ↔ (Edition edition × (exponent bits ≡ 255))
  unfolding millimetres coordinate
  millimetres_30 = (
    λ h.
        let t = infinite_told (is_edition edition) infinite far z h in
        ((edition_exactly edition).0 t.0, eqb-true (exponent bits) 255 t.1),
    λ e. rw ((edition_exactly edition).1 e.0, eq-eqb (exponent bits) 255 e.1),
  )

  -- 31 exactly if it is 1 or 2 and the float a number whose magnitude is over 1000 m
  pub millimetres_31 : ((millimetres edition bits).refusal ≡ 31)
      ↔ (Edition edition × (exponent bits ≡ 255 → ⊥) × (1000 * 2 ^ 150 < magnitude bits))
  unfolding millimetres coordinate
  millimetres_31 = (
    λ h.
        let t = far_told (is_edition edition) infinite far z h in (
          (edition_exactly edition).0 t.0,
          eqb-false (exponent bits) 255 t.1,
          ltb-true (1000 * 2 ^ 150) (magnitude bits) t.2,
        ),
    λ e. rw (
      (edition_exactly edition).1 e.0,
      ne_eqb (exponent bits) 255 e.1,
      lt-ltb (1000 * 2 ^ 150) (magnitude bits) e.2,
    ),
  )

  -- no refusal exactly if it is 1 or 2 and the float a number of at most 1000 m
  pub millimetres_0 : ((millimetres edition bits).refusal ≡ 0)
      ↔ (Edition edition × (exponent bits ≡ 255 → ⊥) × (magnitude bits ≤ 1000 * 2 ^ 150))
  unfolding millimetres coordinate
  millimetres_0 = (
    λ h.
        let t = value_told (is_edition edition) infinite far z h in (
          (edition_exactly edition).0 t.0,
          eqb-false (exponent bits) 255 t.1,
          ltb-false (1000 * 2 ^ 150) (magnitude bits) t.2,
        ),
    λ e. rw (
      (edition_exactly edition).1 e.0,
      ne_eqb (exponent bits) 255 e.1,
      le-ltb (1000 * 2 ^ 150) (magnitude bits) e.2,
    ),
  )

  -- an answer that is no refusal is the closed form
  pub given : (millimetres edition bits).refusal ≡ 0 → (millimetres edition bits).value ≡ z
  unfolding millimetres coordinate
  given h =
      let t = value_told (is_edition edition) infinite far z h in
      rw (t.0, t.1, t.2)

  -- an answer that is no refusal is the whole number nearest to 1000 times the float's exact value, halves by the edition, and no other is
  pub millimetres_nearest : (millimetres edition bits).refusal ≡ 0 → (z : ℤ)
      → ((millimetres edition bits).value ≡ z) ↔ RoundsMillimetres (ties_of edition) bits z
  millimetres_nearest h z =
      let both = rounds_exactly (negative bits) (1000 * magnitude bits) (2 ^ 150) (lit< tt) (ties_of edition) z in
      (λ e. both.1 (sym e ∙ given h), λ r. given h ∙ sym (both.0 r))

-- the editions differ only at exact halves, and there by one: the magnitude m is suc m in edition 1 (paper 02, (iv))
pub millimetres_editions : (bits : ℕ)
    → (millimetres 2 bits ≡ millimetres 1 bits)
    ⊎ (HalfMillimetre bits
    × ((m : ℕ) × (millimetres 2 bits ≡ value (signed (negative bits) m)) × (millimetres 1 bits ≡ value (signed (negative bits) (suc m)))))
unfolding millimetres coordinate ties_of
millimetres_editions bits =
    either
    (ties_differ (1000 * magnitude bits) (2 ^ 150) (lit< tt))
    (λ e. inl (rw e))
    (λ half.
    test
    (not_finite bits)
    (λ t. inl (rw t))
    (λ t.
    test
    (ltb (1000 * 2 ^ 150) (magnitude bits))
    (λ u. inl (rw (t, u)))
    (λ u. inr (half.0, (nearest ToEven (1000 * magnitude bits) (2 ^ 150), rw (t, u), rw (t, u, half.1))))))
