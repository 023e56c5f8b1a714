-- The vital-signs profile is sound: type 2 takes any room that is a multiple of 4, and every legal payload length is one.
use mathlib.Core.Bool.{Bool, true, false, cond, ◌&&◌}
use mathlib.Core.Path.{◌≡◌, refl}
use mathlib.Core.Logic.{◌⊎◌, inl, inr}
use Prim.Native.Nat.{ℕ, ◌+◌, ◌%◌, ◌≤◌}
use native.Mathlib.Omega.{arith}
use native.Mathlib.Decide.{dec_le}
use lib.Dec.{eqb, leb}
use borrow.Author.Tests.{eq-eqb, eqb-true, eqb-false}
use Rattle.digits.proofs.Choices.{within_bounds}
use Rattle.mmwave.specs.declared.Rule.TheVariants.{Never, Exact, Multiple}
use Rattle.mmwave.specs.declared.Unit.TheVariants.{Four, Sixteen}
use Rattle.mmwave.specs.Profile.{legal, Sound}
use Rattle.mmwave.specs.VitalSigns.{vital_signs, vital_total, vital_rule}
use Rattle.mmwave.proofs.Tests.{one_rule}

-- a multiple of 4 from 40 to 32,768 and not 44
abbrev pub VitalBounds : ℕ → Type 0
VitalBounds l = (l % 4 ≡ 0) × (l ≡ 44 → ⊥) × (40 ≤ l) × (l ≤ 32768)

-- a legal total length is one
pub vital_bounds : (l : ℕ) → vital_total l ≡ true → VitalBounds l
unfolding vital_total
vital_bounds l h = go (eqb (l % 4) 0) refl (eqb l 44) refl h
  where
    go : (b : Bool) → eqb (l % 4) 0 ≡ b → (c : Bool) → eqb l 44 ≡ c → cond b (cond c false (leb 40 l && leb l 32768)) false ≡ true
        → VitalBounds l
    go true a false d j = let b = within_bounds 40 32768 l j in (eqb-true (l % 4) 0 a, eqb-false l 44 d, b.0, b.1)
    go true a true d j = let z : ◌≡◌ {A = ℕ} 0 1 = cc in absurd (omega arith)
    go false a c d j = let z : ◌≡◌ {A = ℕ} 0 1 = cc in absurd (omega arith)

-- what holds of each legal length of types 1 to 4 holds of every legal length
pub vital_types : (A : Type 0) (type m : ℕ) → (type ≡ 1 → m ≡ 24 → A) → (type ≡ 2 → m % 4 ≡ 0 → A) → (type ≡ 3 → m % 16 ≡ 0 → A)
    → (type ≡ 4 → m ≡ 20 → A) → legal (vital_rule type) m ≡ true → A
unfolding vital_rule
vital_types A type m f₁ f₂ f₃ f₄ =
    one_rule A type 1 m (Exact 24) _ (λ t e. f₁ t (eqb-true m 24 e))
    (one_rule A type 2 m (Multiple Four) _ (λ t e. f₂ t (eqb-true (m % 4) 0 e))
    (one_rule A type 3 m (Multiple Sixteen) _ (λ t e. f₃ t (eqb-true (m % 16) 0 e))
    (one_rule A type 4 m (Exact 20) Never (λ t e. f₄ t (eqb-true m 20 e)) (λ e. let z : ◌≡◌ {A = ℕ} 0 1 = cc in absurd (omega arith)))))

-- every legal payload length is a multiple of 4
vital_fours : (type m : ℕ) → legal (vital_rule type) m ≡ true → m % 4 ≡ 0
vital_fours type m = vital_types (m % 4 ≡ 0) type m (λ t e. omega arith) (λ t e. e) (λ t e. omega arith) (λ t e. omega arith)

-- a legal total length has no room or room for a record
vital_some : (l : ℕ) → vital_total l ≡ true → (l ≤ 40 + 0) ⊎ (48 ≤ l)
vital_some l t = go (vital_bounds l t) (dec_le l 40)
  where
    go : VitalBounds l → Dec (l ≤ 40) → (l ≤ 40 + 0) ⊎ (48 ≤ l)
    go b (yes h) = inl (omega arith)
    go b (no h) = inr (omega (arith, b.0, b.1))

-- the vital-signs profile is sound
pub vital_sound : Sound vital_signs
unfolding vital_signs vital_total vital_rule
vital_sound = record {
  some_total = (40, omega arith, refl);
  some_objects = (99, omega arith, refl);
  some_subframe = (0, omega arith, refl);
  total_least = λ l t. (vital_bounds l t).2;
  total_some = vital_some;
  total_fair = λ l t. let b = vital_bounds l t in omega (arith, b.0, b.2);
  header_fair = refl;
  length_fair = λ n type m h. vital_fours type m h;
  filler = 2;
  filler_small = omega arith;
  filler_takes = λ n room f. eq-eqb (room % 4) 0 f;
  filler_repeats = refl;
}
