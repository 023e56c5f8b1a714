-- The phase of a character by a multiplication and a shift, half a turn on: 110 steps are 18000 hundredths of a degree, and nothing is
-- negative before these are taken off.
use Rattle.std.proofs.Common.{◌≡◌, ℕ, suc, ◌+◌, ◌-◌, ◌*◌, ◌/◌, ◌^◌, ◌<◌, ◌≤◌, true, ltb, ℤ, pos, ◌-ℤ◌, refl, ap, ◌∙◌, arith}
use Rattle.std.proofs.Common.{ltb-true, ltb-false, lt-ltb, le-ltb, w32, SFits, to_z, of_z, to_z-of_z}
use mir.Facts.{to_z_pos}
use Rattle.digits.specs.Bytes.{is_character}
use Rattle.digits.proofs.Choices.{test, within_bounds}
use Rattle.units.specs.declared.Ties.TheVariants.{ToAway}
use Rattle.units.specs.Rounding.{distance, nearest}
use Rattle.units.specs.Units.{value, centidegrees_of, centidegrees}

-- the phase half a turn on, by parts of which 2048 are a hundredth of a degree: a step, 1800 / 11 hundredths, is 335127 of them and 3 / 11
abbrev pub turned : ℕ → ℕ
turned c = (335127 * (c + 110 - 144) + 1024) / 2048

-- from 144 on it is half a turn and the nearest whole number, below it half a turn less that; the 220 steps of a turn miss 60 parts, and no
-- phase is within 93 parts of a half
turned_up : (c : ℕ) → 144 ≤ c → c ≤ 254 → (18000 ≤ turned c) × (nearest ToAway (1800 * (c - 144)) 11 ≡ turned c - 18000)
unfolding nearest
turned_up c least most = (omega arith, omega arith)

turned_down : (c : ℕ) → 34 ≤ c → c < 144
    → (turned c < 18000) × (nearest ToAway (1800 * (144 - c)) 11 ≡ suc (18000 - suc (turned c)))
unfolding nearest
turned_down c least most = (omega arith, omega arith)

-- without the half turn it is the phase
pub turned_back : (c : ℕ) → is_character c ≡ true → pos (turned c) -ℤ pos 18000 ≡ centidegrees_of c
turned_back c is =
    let b = within_bounds 34 254 c is in
    test
    (ltb c 144)
    (λ t.
    let e : distance c 144 ≡ 144 - c = omega (arith, ltb-true c 144 t) in
    let down = turned_down c b.0 (ltb-true c 144 t) in
    rw (t, e, lt-ltb (turned c) 18000 down.0, down.1) refl)
    (λ t.
    let e : distance c 144 ≡ c - 144 = omega (arith, ltb-false c 144 t) in
    let up = turned_up c (ltb-false c 144 t) b.1 in
    rw (t, e, le-ltb (turned c) 18000 up.0, up.1) refl)

-- -- In the machine's numbers

-- taking a number off what 32 bits hold does not overflow
pub less_fits : {q k : ℕ} → k < 2 ^ 31 → SFits w32 (pos q) → SFits w32 (to_z w32 q -ℤ pos (suc k))
less_fits {q} {k} small fits =
    rw (to_z_pos w32 {n = q} fits.sfits)
    (test
    (ltb q (suc k))
    (λ t. rw t record { sfits = omega (arith, ltb-true q (suc k) t) })
    (λ t. rw t record { sfits = omega (arith, fits.sfits) }))

-- and gives the difference
less : (q k : ℕ) → k < 2 ^ 31 → SFits w32 (pos q) → to_z w32 (of_z w32 (to_z w32 q -ℤ pos (suc k))) ≡ pos q -ℤ pos (suc k)
less q k small fits =
    to_z-of_z {w = w32} {z = to_z w32 q -ℤ pos (suc k)} (less_fits small fits)
    ∙ ap (λ (z : ℤ). z -ℤ pos (suc k)) (to_z_pos w32 {n = q} fits.sfits)

module _ (c : ℕ) (is : is_character c ≡ true) where
  -- the code's number is the phase
  pub centidegrees_value : value (to_z w32 (of_z w32 (to_z w32 (turned c) -ℤ pos 18000))) ≡ centidegrees c
  unfolding centidegrees
  centidegrees_value =
      let fits : SFits w32 (pos (turned c)) = record { sfits = omega (arith, within_bounds 34 254 c is) } in
      rw is (ap value (less (turned c) 17999 (omega arith) fits ∙ turned_back c is))
