-- Rounding as a predicate and as a closed form: which whole numbers are nearest to a value, and which one the tie rule takes.
-- A whole number either has the value's sign, or the other one and is not 0: along the sign `gap` is a distance of naturals, against it a
-- sum. From there on everything is over ℕ.
use Rattle.std.proofs.Common.{◌≡◌, ℕ, zero, suc, ◌+◌, ◌-◌, ◌*◌, ◌/◌, ◌%◌, ◌<◌, ◌≤◌, Bool, true, false, not, ltb, ◌⊎◌, ◌↔◌, ℤ, pos}
use Rattle.std.proofs.Common.{negsuc, ◌+ℤ◌, ◌-ℤ◌, ◌*ℤ◌, neg_ℤ, nat_abs, sym, refl, ap, ◌∙◌, ap₂, inl, inr, mul-le-mul_right}
use Rattle.std.proofs.Common.{mul_assoc, suc-mul, mul_comm, add-mul, le_antisymm, mul-le-mul_left, mul-pos, mul-zero}
use Rattle.std.proofs.Common.{le-div_iff_mul-le, mul-suc, mul-add, mul_right_comm, div-mul-le_self, mul_left_comm, arith, ltb-false}
use Rattle.std.proofs.Common.{ltb-true}
use native.Mathlib.Nat.{mul-div-mul_right}
use native.Mathlib.Nat.{lt-div-mul-add, div-eq_of_lt-le}
use lib.IntN.{neg_ℤ-neg_ℤ, neg_ℤ-+ℤ}
use Rattle.digits.proofs.Choices.{test, either}
use Rattle.units.specs.Rounding.{distance, signed, gap, Nearest, Half, Ties, ToAway, ToEven, AwayFromZero, EvenAtHalf}
use Rattle.units.specs.Rounding.{Taken, Rounds, half_up, nearest}

-- -- The gap, over the naturals

nat_abs_neg : (z : ℤ) → nat_abs (neg_ℤ z) ≡ nat_abs z
nat_abs_neg (pos zero) = refl
nat_abs_neg (pos (suc n)) = refl
nat_abs_neg (negsuc n) = refl

-- the magnitude of a signed number
pub nat_abs_signed : (negative : Bool) (m : ℕ) → nat_abs (signed negative m) ≡ m
nat_abs_signed true m = nat_abs_neg (pos m)
nat_abs_signed false m = refl

nat_abs_sub : (a b : ℕ) → nat_abs (pos a -ℤ pos b) ≡ distance a b
nat_abs_sub a zero = omega arith
nat_abs_sub a (suc b) =
    test
    (ltb a (suc b))
    (λ t. let h : a < suc b = ltb-true a (suc b) t in simp t (omega arith))
    (λ t. let h : suc b ≤ a = ltb-false a (suc b) t in simp t (omega arith))

times_neg : (d m : ℕ) → pos d *ℤ neg_ℤ (pos m) ≡ neg_ℤ (pos (d * m))
times_neg d zero = simp mul-zero
times_neg d (suc m) = refl

-- along the value's sign the gap is a distance
pub gap_along : (negative : Bool) (n d m : ℕ) → gap negative n d (signed negative m) ≡ distance (d * m) n
gap_along true n d m =
    ap (λ (z : ℤ). nat_abs (z -ℤ neg_ℤ (pos n))) (times_neg d m)
    ∙ ap nat_abs (sym (neg_ℤ-+ℤ (pos (d * m)) (neg_ℤ (pos n))))
    ∙ nat_abs_neg (pos (d * m) -ℤ pos n)
    ∙ nat_abs_sub (d * m) n
gap_along false n d m = nat_abs_sub (d * m) n

-- against the value's sign it is a sum
pub gap_against : (negative : Bool) (n d m : ℕ) → gap negative n d (signed (not negative) m) ≡ d * m + n
gap_against true n d m = ap (λ (z : ℤ). nat_abs (pos (d * m) +ℤ z)) (neg_ℤ-neg_ℤ (pos n))
gap_against false n d m =
    ap (λ (z : ℤ). nat_abs (z -ℤ pos n)) (times_neg d m)
    ∙ ap nat_abs (sym (neg_ℤ-+ℤ (pos (d * m)) (pos n)))
    ∙ nat_abs_neg (pos (d * m + n))

-- which of the two a whole number is, with its gap
pub data Side (negative : Bool) (n d : ℕ) (z : ℤ) : Type 0 where
  along : (m : ℕ) → z ≡ signed negative m → gap negative n d z ≡ distance (d * m) n → Side negative n d z
  against : (m : ℕ) → gap negative n d z ≡ d * suc m + n → Side negative n d z

-- every whole number is one of the two
pub side : (negative : Bool) (n d : ℕ) (z : ℤ) → Side negative n d z
side true n d (pos zero) = along 0 refl (gap_along true n d 0)
side true n d (pos (suc m)) = against m (gap_against true n d (suc m))
side true n d (negsuc m) = along (suc m) refl (gap_along true n d (suc m))
side false n d (pos m) = along m refl (gap_along false n d m)
side false n d (negsuc m) = against m (gap_against false n d (suc m))

-- -- The closed form, over the naturals

-- a half goes up by at most one
pub half_most : (ties : Ties) (q : ℕ) → half_up ties q ≤ 1
half_most ToAway q = omega arith
half_most ToEven q = omega arith

-- the closed form without a division
pub bounds : (ties : Ties) (n d : ℕ) → 0 < d
    → (2 * (d * nearest ties n d) ≤ 2 * n + (d - 1) + half_up ties (n / d))
    × (2 * n + (d - 1) + half_up ties (n / d) < 2 * (d * nearest ties n d) + 2 * d)
unfolding nearest
bounds ties n d h =
    let a : ℕ = 2 * n + (d - 1) + half_up ties (n / d) in
    let q : ℕ = a / (2 * d) in
    let e : q * (2 * d) ≡ 2 * (d * q) = mul_left_comm q 2 d ∙ ap (λ (x : ℕ). 2 * x) (mul_comm q d) in
    let low : q * (2 * d) ≤ a = div-mul-le_self a (2 * d) in
    let high : a < q * (2 * d) + 2 * d = lt-div-mul-add {a = a} {b = 2 * d} (omega arith) in
    (omega arith, omega arith)

-- a number with these bounds is the closed form
pub fixed : (ties : Ties) (n d w : ℕ) → 0 < d → 2 * (d * w) ≤ 2 * n + (d - 1) + half_up ties (n / d)
    → 2 * n + (d - 1) + half_up ties (n / d) < 2 * (d * w) + 2 * d → nearest ties n d ≡ w
unfolding nearest
fixed ties n d w h low high =
    let e : w * (2 * d) ≡ 2 * (d * w) = mul_left_comm w 2 d ∙ ap (λ (x : ℕ). 2 * x) (mul_comm w d) in
    div-eq_of_lt-le (2 * d) {m = 2 * n + (d - 1) + half_up ties (n / d)} (omega arith) (omega (arith, add-mul w 1 (2 * d)))

-- a common factor of numerator and denominator does not matter
pub nearest_scaled : (ties : Ties) (n d f : ℕ) → 0 < d → 0 < f → nearest ties (n * f) (d * f) ≡ nearest ties n d
nearest_scaled ties n d f h g = go (half_up ties (n / d)) refl (half_most ties (n / d)) (bounds ties n d h)
  where
    w : ℕ
    w = nearest ties n d

    up : half_up ties (n * f / (d * f)) ≡ half_up ties (n / d)
    up = ap (half_up ties) (mul-div-mul_right n d g)

    whole : 2 * (d * w) * f ≡ 2 * (d * f * w)
    whole = mul_assoc 2 (d * w) f ∙ ap (λ (x : ℕ). 2 * x) (mul_right_comm d w f)

    value : (2 * n + d) * f ≡ 2 * (n * f) + d * f
    value = add-mul (2 * n) d f ∙ ap (λ (x : ℕ). x + d * f) (mul_assoc 2 n f)

    wide : (2 * (d * w) + 2 * d) * f ≡ 2 * (d * f * w) + 2 * (d * f)
    wide = add-mul (2 * (d * w)) (2 * d) f ∙ ap₂ (λ (x y : ℕ). x + y) whole (mul_assoc 2 d f)

    pos : 0 < d * f
    pos = mul-pos h g

    Bounds : ℕ → Type 0
    Bounds u = (2 * (d * w) ≤ 2 * n + (d - 1) + u) × (2 * n + (d - 1) + u < 2 * (d * w) + 2 * d)

    go : (u : ℕ) → half_up ties (n / d) ≡ u → u ≤ 1 → Bounds (half_up ties (n / d)) → nearest ties (n * f) (d * f) ≡ w
    go zero e least b =
        let low : suc (2 * (d * w)) * f ≤ (2 * n + d) * f = mul-le-mul_right f (omega (arith, b, e)) in
        let high : (2 * n + d) * f ≤ (2 * (d * w) + 2 * d) * f = mul-le-mul_right f (omega (arith, b, e)) in
        fixed ties (n * f) (d * f) w pos
        (omega (arith, low, suc-mul (2 * (d * w)) f, whole, value, up, e, g, pos))
        (omega (arith, high, wide, value, up, e, pos))
    go (suc zero) e least b =
        let low : 2 * (d * w) * f ≤ (2 * n + d) * f = mul-le-mul_right f (omega (arith, b, e)) in
        let high : suc (2 * n + d) * f ≤ (2 * (d * w) + 2 * d) * f = mul-le-mul_right f (omega (arith, b, e)) in
        fixed ties (n * f) (d * f) w pos
        (omega (arith, low, whole, value, up, e, pos))
        (omega (arith, high, suc-mul (2 * n + d) f, wide, value, up, e, g, pos))
    go (suc (suc u)) e least b = absurd (omega arith)

-- a natural that is as near is at most the closed form that takes halves up
most : (n d m : ℕ) → 0 < d → 2 * (d * m) ≤ 2 * n + d → m ≤ nearest ToAway n d
unfolding nearest
most n d m h low =
    let e : m * (2 * d) ≡ 2 * (d * m) = mul_left_comm m 2 d ∙ ap (λ (x : ℕ). 2 * x) (mul_comm m d) in
    (le-div_iff_mul-le {k = 2 * d} {x = m} {y = 2 * n + (d - 1) + 1} (omega arith)).1 (omega arith)

pub next : (d m k : ℕ) → m < k → d * m + d ≤ d * k
next d m k h = rw (← mul-suc d m) (mul-le-mul_left d h)

odd : (d m : ℕ) → d * (2 * m + 1) ≡ 2 * (d * m) + d
odd d m = mul-add d (2 * m) 1 ∙ omega (arith, mul_left_comm d 2 m)

half_along : (n d m : ℕ) → 2 * distance (d * m) n ≡ d → Half n d
unfolding Half
half_along n d zero e = (0, omega (arith, odd d 0, mul-zero d))
half_along n d (suc m) e =
    test
    (ltb n (d * suc m))
    (λ t. (m, omega (arith, ltb-true n (d * suc m) t, odd d m, mul-suc d m)))
    (λ t. (suc m, omega (arith, ltb-false n (d * suc m) t, odd d (suc m))))

-- of two even numbers, both within a half of the value, neither is the greater
even_most : (n d m k : ℕ) → 0 < d → 2 * distance (d * m) n ≤ d → 2 * distance (d * k) n ≤ d → m % 2 ≡ 0 → k % 2 ≡ 0 → k ≤ m
even_most n d m k h near near' e f =
    test
    (ltb m k)
    (λ t.
    let less : m < k = ltb-true m k t in
    absurd (omega (arith, next d (suc m) k (omega arith), mul-suc d m)))
    (λ t. ltb-false m k t)

-- the whole number below an exact half is the quotient
floor_is : (n d m : ℕ) → 0 < d → 2 * n ≡ d * (2 * m + 1) → n / d ≡ m
floor_is n d m h e =
    let f : m * d ≡ d * m = mul_comm m d in
    div-eq_of_lt-le d {m = n} (omega (arith, odd d m)) (omega (arith, odd d m, add-mul m 1 d))

-- exactly between m and m + 1 the rule decides which of the two it is
pub at_half : (ties : Ties) (n d m : ℕ) → 0 < d → 2 * n ≡ d * (2 * m + 1) → nearest ties n d ≡ m + half_up ties m
at_half ties n d m h e = go (half_up ties m) refl (half_most ties m)
  where
    up : half_up ties (n / d) ≡ half_up ties m
    up = ap (half_up ties) (floor_is n d m h e)

    go : (u : ℕ) → half_up ties m ≡ u → u ≤ 1 → nearest ties n d ≡ m + u
    go zero f low = fixed ties n d (m + 0) h (omega (arith, up, odd d m, mul-add d m 0)) (omega (arith, up, odd d m, mul-add d m 0))
    go (suc zero) f low = fixed ties n d (m + 1) h (omega (arith, up, odd d m, mul-add d m 1)) (omega (arith, up, odd d m, mul-add d m 1))
    go (suc (suc u)) f low = absurd (omega arith)

-- two rules differ only at exact halves, and there by one (paper 02, (iv))
pub ties_differ : (n d : ℕ) → 0 < d
    → (nearest ToEven n d ≡ nearest ToAway n d) ⊎ (Half n d × (nearest ToAway n d ≡ suc (nearest ToEven n d)))
unfolding Half
ties_differ n d h =
    let even : ℕ = nearest ToEven n d in
    let away : ℕ = nearest ToAway n d in
    let e = bounds ToEven n d h in
    let a = bounds ToAway n d h in
    let up = half_most ToEven (n / d) in
    test
    (ltb even away)
    (λ t.
    let less : even < away = ltb-true even away t in
    let one : away ≡ suc even = test
    (ltb (suc even) away)
    (λ u. absurd (omega (arith, next d (suc even) away (ltb-true (suc even) away u), mul-suc d even)))
    (λ u. le_antisymm (ltb-false (suc even) away u) less) in
    inr ((even, omega (arith, next d even away less, odd d even)), one))
    (λ t.
    test
    (ltb away even)
    (λ u. absurd (omega (arith, next d away even (ltb-true away even u))))
    (λ u. inl (le_antisymm (ltb-false away even u) (ltb-false even away t))))

-- -- The value and its nearest numbers

module _ (negative : Bool) (n d : ℕ) (h : 0 < d) where
  -- twice the gap of the closed form is at most d
  closed_near : (ties : Ties) → 2 * gap negative n d (signed negative (nearest ties n d)) ≤ d
  closed_near ties = rw (gap_along negative n d (nearest ties n d)) (omega (arith, bounds ties n d h, half_most ties (n / d)))

  -- two different whole numbers are at least 1 apart, so their gaps add up to d
  far : (y z : ℤ) → (y ≡ z) ⊎ (d ≤ gap negative n d y + gap negative n d z)
  far y z = go (side negative n d y) (side negative n d z)
    where
      go : Side negative n d y → Side negative n d z → (y ≡ z) ⊎ (d ≤ gap negative n d y + gap negative n d z)
      go (against k f) s = inr (rw f (omega (arith, mul-suc d k)))
      go (along m e f) (against k g) = inr (rw g (omega (arith, mul-suc d k)))
      go (along m e f) (along k e' g) =
          test
          (ltb m k)
          (λ t. inr (rw (f, g) (omega (arith, next d m k (ltb-true m k t)))))
          (λ t.
          test
          (ltb k m)
          (λ u. inr (rw (f, g) (omega (arith, next d k m (ltb-true k m u)))))
          (λ u. inl (e ∙ ap (signed negative) (le_antisymm (ltb-false k m u) (ltb-false m k t)) ∙ sym e')))

  -- a whole number is nearest exactly if twice its distance to the value is at most one
  pub nearest_within_half : (z : ℤ) → Nearest negative n d z ↔ (2 * gap negative n d z ≤ d)
  unfolding Nearest
  nearest_within_half z =
      (λ near. omega (arith, near (signed negative (nearest ToAway n d)), closed_near ToAway), λ half y. closer half y (far z y))
    where
      closer : 2 * gap negative n d z ≤ d → (y : ℤ) → (z ≡ y) ⊎ (d ≤ gap negative n d z + gap negative n d y)
          → gap negative n d z ≤ gap negative n d y
      closer half y (inl e) = rw e (omega arith)
      closer half y (inr apart) = omega arith

  -- the closed form is nearest, whatever the rule
  pub nearest_is_nearest : (ties : Ties) → Nearest negative n d (signed negative (nearest ties n d))
  nearest_is_nearest ties = (nearest_within_half (signed negative (nearest ties n d))).1 (closed_near ties)

  -- a whole number half of one away from the value shows that the value is a half
  half_of : (z : ℤ) → 2 * gap negative n d z ≡ d → Half n d
  half_of z e = go (side negative n d z)
    where
      go : Side negative n d z → Half n d
      go (along m e' f) = half_along n d m (rw f at e)
      go (against m f) = absurd (omega (arith, mul-suc d m))

  -- off the halves there is one nearest number, whatever the tie rule
  pub nearest_unique : (Half n d → ⊥) → (y z : ℤ) → Nearest negative n d y → Nearest negative n d z → y ≡ z
  nearest_unique no-half y z near near' =
      either (far y z) (λ e. e) (λ apart. absurd (no-half (half_of z (half apart))))
    where
      half : d ≤ gap negative n d y + gap negative n d z → 2 * gap negative n d z ≡ d
      half apart = omega (arith, (nearest_within_half y).0 near, (nearest_within_half z).0 near')

  -- a nearest number has the value's sign, and its magnitude is at most the closed form that takes halves up
  pub nearest_along : (z : ℤ) → Nearest negative n d z → (m : ℕ) × (z ≡ signed negative m) × (m ≤ nearest ToAway n d)
  nearest_along z near = go (side negative n d z)
    where
      half : 2 * gap negative n d z ≤ d
      half = (nearest_within_half z).0 near

      go : Side negative n d z → (m : ℕ) × (z ≡ signed negative m) × (m ≤ nearest ToAway n d)
      go (along m e f) = (m, e, most n d m h (omega (arith, half)))
      go (against m f) = absurd (omega (arith, half, mul-suc d m))

  -- the closed form is what the rule takes
  pub closed_taken : (ties : Ties) → Taken ties negative n d (signed negative (nearest ties n d))
  unfolding AwayFromZero EvenAtHalf Half
  closed_taken ToAway = λ y near.
      let a = nearest_along y near in
      rw (a.1, nat_abs_signed negative a.0, nat_abs_signed negative (nearest ToAway n d)) a.2
  closed_taken ToEven = λ half.
      rw (nat_abs_signed negative (nearest ToEven n d), at_half ToEven n d half.0 h half.1) (omega arith)

  -- two numbers that round the value are one
  pub rounds_unique : (ties : Ties) (y z : ℤ) → Rounds ties negative n d y → Rounds ties negative n d z → y ≡ z
  unfolding AwayFromZero EvenAtHalf
  rounds_unique ToAway y z r s =
      let a = nearest_along y r.0 in
      let b = nearest_along z s.0 in
      let up : a.0 ≤ b.0 = rw (a.1, b.1, nat_abs_signed negative a.0, nat_abs_signed negative b.0) at (s.1 y r.0) in
      let down : b.0 ≤ a.0 = rw (a.1, b.1, nat_abs_signed negative a.0, nat_abs_signed negative b.0) at (r.1 z s.0) in
      a.1 ∙ ap (signed negative) (le_antisymm up down) ∙ sym b.1
  rounds_unique ToEven y z r s = either (far y z) (λ e. e) (λ apart. same (half_of y (omega (arith, near, near', apart))))
    where
      near : 2 * gap negative n d y ≤ d
      near = (nearest_within_half y).0 r.0

      near' : 2 * gap negative n d z ≤ d
      near' = (nearest_within_half z).0 s.0

      same : Half n d → y ≡ z
      same half =
          let a = nearest_along y r.0 in
          let b = nearest_along z s.0 in
          let m = a.0 in
          let k = b.0 in
          let e : m % 2 ≡ 0 = rw (a.1, nat_abs_signed negative m) at (r.1 half) in
          let f : k % 2 ≡ 0 = rw (b.1, nat_abs_signed negative k) at (s.1 half) in
          let p : 2 * distance (d * m) n ≤ d = rw (a.1, gap_along negative n d m) at near in
          let q : 2 * distance (d * k) n ≤ d = rw (b.1, gap_along negative n d k) at near' in
          a.1 ∙ ap (signed negative) (le_antisymm (even_most n d k m h q p f e) (even_most n d m k h p q e f)) ∙ sym b.1

  -- nearest, and at exact halves the one that the rule takes: exactly the closed form
  pub rounds_exactly : (ties : Ties) (z : ℤ) → Rounds ties negative n d z ↔ (z ≡ signed negative (nearest ties n d))
  rounds_exactly ties z = (λ r. rounds_unique ties z (signed negative (nearest ties n d)) r closed, λ e. rw e closed)
    where
      closed : Rounds ties negative n d (signed negative (nearest ties n d))
      closed = (nearest_is_nearest ties, closed_taken ties)
