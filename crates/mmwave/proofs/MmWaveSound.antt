-- The mmWave profile is sound: a free type takes any room and may repeat.
use mathlib.Core.Bool.{Bool, true, false, cond, ◌&&◌}
use mathlib.Core.Path.{◌≡◌, refl}
use mathlib.Core.Logic.{inr}
use Prim.Native.Nat.{ℕ, ◌-◌, ◌%◌, ◌≤◌}
use native.Mathlib.Nat.{mod-one}
use native.Mathlib.Omega.{arith}
use lib.Dec.{eqb, leb}
use borrow.Author.Tests.{eqb-true}
use Rattle.digits.proofs.Choices.{within_bounds}
use Rattle.mmwave.specs.Profile.{Sound}
use Rattle.mmwave.specs.MmWave.{mm_wave, total_legal, payload_rule, once_bit, once_mark}

-- a legal total length is a multiple of 32 from 64 to 32,768
pub total_bounds : (l : ℕ) → total_legal l ≡ true → (l % 32 ≡ 0) × (64 ≤ l) × (l ≤ 32768)
unfolding total_legal
total_bounds l h = go (eqb (l % 32) 0) refl h
  where
    go : (b : Bool) → eqb (l % 32) 0 ≡ b → cond b (leb 64 l && leb l 32768) false ≡ true → (l % 32 ≡ 0) × (64 ≤ l) × (l ≤ 32768)
    go true a j = let b = within_bounds 64 32768 l j in (eqb-true (l % 32) 0 a, b.0, b.1)
    go false a j = let z : ◌≡◌ {A = ℕ} 0 1 = cc in absurd (omega arith)

-- the mmWave profile is sound
pub mm_wave_sound : Sound mm_wave
unfolding mm_wave total_legal payload_rule once_bit once_mark
mm_wave_sound = record {
  some_total = (64, omega arith, refl);
  some_objects = (0, omega arith, refl);
  some_subframe = (0, omega arith, refl);
  total_least = λ l t. omega (arith, (total_bounds l t).1);
  total_some = λ l t. inr (omega (arith, (total_bounds l t).1));
  total_fair = λ l t. mod-one (l - 40);
  header_fair = refl;
  length_fair = λ n type m h. mod-one m;
  filler = 0;
  filler_small = omega arith;
  filler_takes = λ n room f. refl;
  filler_repeats = refl;
}
