-- The mmWave profile says the sentences of paper 01. The idea: with l a multiple of 32, "the smallest multiple of 32 not below e" is
-- e ≤ l < e + 32.
use mathlib.Core.Bool.{Bool, true, false, cond}
use mathlib.Core.Path.{◌≡◌, refl}
use Prim.Native.Nat.{ℕ, ◌+◌, ◌-◌, ◌*◌, ◌%◌, ◌<◌, ◌≤◌}
use native.Mathlib.Omega.{arith}
use native.Mathlib.Decide.{dec_le}
use lib.Dec.{eqb}
use borrow.Author.Tests.{eq-eqb, ne_eqb, le-leb, eqb-true, eqb-false}
use Rattle.mmwave.specs.declared.Rule.TheVariants.{Never, Exact, Multiple, Free}
use Rattle.mmwave.specs.declared.Unit.TheVariants.{Two, Four}
use Rattle.mmwave.specs.Profile.{legal}
use Rattle.mmwave.specs.MmWave.{mm_wave, total_legal, per_object, payload_rule}
use Rattle.mmwave.specs.Paper.{LegalPayload, Smallest, mm_wave_says}
use Rattle.mmwave.proofs.MmWaveSound.{total_bounds}
use Rattle.mmwave.proofs.Tests.{one_type}
use Rattle.mmwave.proofs.Marks.{marks_exclude}
use Rattle.mmwave.proofs.Together.{each_once}
use Rattle.mmwave.proofs.Paper.{Says}

-- -- Payload lengths

per_object_lem : (size n m : ℕ) → legal (per_object size n) m ≡ true → (m ≡ size * n) × (n ≡ 0 → ⊥)
unfolding per_object
per_object_lem size n m h = go (eqb n 0) refl h
  where
    go : (b : Bool) → eqb n 0 ≡ b → legal (cond b Never (Exact (size * n))) m ≡ true → (m ≡ size * n) × (n ≡ 0 → ⊥)
    go true a l = let z : ◌≡◌ {A = ℕ} 0 1 = cc in absurd (omega arith)
    go false a l = (eqb-true m (size * n) l, eqb-false n 0 a)

by_object : (size n m : ℕ) → (m ≡ size * n) × (n ≡ 0 → ⊥) → legal (per_object size n) m ≡ true
unfolding per_object
by_object size n m h = rw (ne_eqb n 0 h.1) (eq-eqb m (size * n) h.0)

legal_forth : (n type m : ℕ) → legal (payload_rule type n) m ≡ true → LegalPayload n type m
unfolding payload_rule
legal_forth n type m h = record {
  points = λ e. per_object_lem 16 n m (rw e at h);
  range_profile = λ e. eqb-true (m % 2) 0 (rw e at h);
  noise_profile = λ e. eqb-true (m % 2) 0 (rw e at h);
  azimuth_heatmap = λ e. eqb-true (m % 4) 0 (rw e at h);
  doppler_heatmap = λ e. eqb-true (m % 2) 0 (rw e at h);
  statistics = λ e. eqb-true m 24 (rw e at h);
  side_info = λ e. per_object_lem 4 n m (rw e at h);
  elevation_heatmap = λ e. eqb-true (m % 4) 0 (rw e at h);
  temperature = λ e. eqb-true m 28 (rw e at h);
}

legal_back : (n type m : ℕ) → LegalPayload n type m → legal (payload_rule type n) m ≡ true
unfolding payload_rule
legal_back n type m w =
    one_type type 1 m (per_object 16 n) _ (λ e. by_object 16 n m (w.points e))
    (one_type type 2 m (Multiple Two) _ (λ e. eq-eqb (m % 2) 0 (w.range_profile e))
    (one_type type 3 m (Multiple Two) _ (λ e. eq-eqb (m % 2) 0 (w.noise_profile e))
    (one_type type 4 m (Multiple Four) _ (λ e. eq-eqb (m % 4) 0 (w.azimuth_heatmap e))
    (one_type type 5 m (Multiple Two) _ (λ e. eq-eqb (m % 2) 0 (w.doppler_heatmap e))
    (one_type type 6 m (Exact 24) _ (λ e. eq-eqb m 24 (w.statistics e))
    (one_type type 7 m (per_object 4 n) _ (λ e. by_object 4 n m (w.side_info e))
    (one_type type 8 m (Multiple Four) _ (λ e. eq-eqb (m % 4) 0 (w.elevation_heatmap e))
    (one_type type 9 m (Exact 28) Free (λ e. eq-eqb m 28 (w.temperature e)) refl))))))))

-- -- The end and the total length

-- a multiple of 32 less than 32 above e is the smallest not below e
smallest_of : (e l : ℕ) → l % 32 ≡ 0 → e ≤ l → l - e < 32 → Smallest e l
smallest_of e l a b c = record { multiple = a; above = b; least = λ m d f. omega arith }

-- the smallest multiple of 32 not below e is less than 32 above it
smallest_near : (e l : ℕ) → Smallest e l → l - e < 32
smallest_near e l s = go (dec_le (e + 32) l)
  where
    go : Dec (e + 32 ≤ l) → l - e < 32
    go (yes h) = absurd (omega (arith, s.multiple, s.least (l - 32) (omega (arith, s.multiple)) (omega arith)))
    go (no h) = omega (arith, s.above)

total_legal_lem : (l : ℕ) → (l % 32 ≡ 0) × (64 ≤ l) × (l ≤ 32768) → total_legal l ≡ true
unfolding total_legal
total_legal_lem l b = rw (eq-eqb (l % 32) 0 b.0, le-leb 64 l b.1, le-leb l 32768 b.2)

-- the mmWave profile says the sentences of paper 01 and of paper 02, (vii)
pub mm_wave_says_lem : Says mm_wave mm_wave_says
unfolding mm_wave
mm_wave_says_lem = record {
  kind_is = refl;
  legal_says = λ n type m. (legal_forth n type m, legal_back n type m);
  marks_say = marks_exclude;
  together_says = each_once;
  total_says = λ l. (total_bounds l, total_legal_lem l);
  objects_says = λ n. (λ h. tt, λ h. refl);
  subframe_says = λ n. (λ h. tt, λ h. refl);
  fits_near = λ e l s. (s.above, omega (arith, smallest_near e l s));
  near_fits = λ e l t h i. smallest_of e l (total_bounds l t).0 h (omega arith);
  bounds = λ l t. let b = total_bounds l t in (b.1, b.2);
  alone = λ l t. let b = total_bounds l t in (λ h. omega (arith, b.0, b.1), λ h. omega arith);
  total_follows = λ k e l h i s u j z. total_legal_lem l (s.multiple, h, i);
}
