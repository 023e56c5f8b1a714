-- The vital-signs profile says the sentences of paper 02, (i).
use mathlib.Core.Bool.{Bool, true, false, cond}
use mathlib.Core.Path.{◌≡◌, refl}
use mathlib.Core.List.{List, [], ◌∷◌}
use mathlib.Core.Logic.{◌↔◌}
use Prim.Native.Nat.{ℕ, zero, suc, ◌+◌, ◌*◌, ◌%◌, ◌≤◌}
use native.Mathlib.Omega.{arith}
use lib.Dec.{eqb}
use lib.ListN.{length}
use borrow.Author.Tests.{eq-eqb, ne_eqb, le-leb, eqb-true, eqb-false}
use Rattle.digits.specs.LittleEndian.{little_at}
use Rattle.mmwave.specs.declared.Rule.TheVariants.{Never, Exact, Multiple}
use Rattle.mmwave.specs.declared.Unit.TheVariants.{Four, Sixteen}
use Rattle.mmwave.specs.Profile.{legal}
use Rattle.mmwave.specs.VitalSigns.{vital_signs, vital_total, vital_rule}
use Rattle.mmwave.specs.Paper.{LegalVital, vital_says, Packet, NoneExcludes}
use Rattle.mmwave.proofs.VitalSound.{VitalBounds, vital_sound, vital_bounds, vital_types}
use Rattle.mmwave.proofs.Paper.{Says, packet_records, packet_total}
use Rattle.mmwave.proofs.Together.{NoneAgain}
use Rattle.mmwave.proofs.Document.{records_least, records_end}

-- -- Payload lengths

known_type : (type m : ℕ) → legal (vital_rule type) m ≡ true → (1 ≤ type) × (type ≤ 4)
known_type type m =
    vital_types ((1 ≤ type) × (type ≤ 4)) type m (λ t e. (omega arith, omega arith)) (λ t e. (omega arith, omega arith))
    (λ t e. (omega arith, omega arith)) (λ t e. (omega arith, omega arith))

legal_forth : (type m : ℕ) → legal (vital_rule type) m ≡ true → LegalVital type m
unfolding vital_rule
legal_forth type m h = record {
  known = known_type type m h;
  vital_signs_lem = λ e. eqb-true m 24 (rw e at h);
  range_profile = λ e. eqb-true (m % 4) 0 (rw e at h);
  raw_data = λ e. eqb-true (m % 16) 0 (rw e at h);
  system_information = λ e. eqb-true m 20 (rw e at h);
}

legal_back : (type m : ℕ) → LegalVital type m → legal (vital_rule type) m ≡ true
unfolding vital_rule
legal_back type m w = go (eqb type 1) refl (eqb type 2) refl (eqb type 3) refl (eqb type 4) refl
  where
    go : (a : Bool) → eqb type 1 ≡ a → (b : Bool) → eqb type 2 ≡ b → (c : Bool) → eqb type 3 ≡ c → (d : Bool) → eqb type 4 ≡ d
        → legal (cond a (Exact 24) (cond b (Multiple Four) (cond c (Multiple Sixteen) (cond d (Exact 20) Never)))) m ≡ true
    go true e b f c g d h = eq-eqb m 24 (w.vital_signs_lem (eqb-true type 1 e))
    go false e true f c g d h = eq-eqb (m % 4) 0 (w.range_profile (eqb-true type 2 f))
    go false e false f true g d h = eq-eqb (m % 16) 0 (w.raw_data (eqb-true type 3 g))
    go false e false f false g true h = eq-eqb m 20 (w.system_information (eqb-true type 4 h))
    go false e false f false g false h = absurd (omega
        (arith, eqb-false type 1 e, eqb-false type 2 f, eqb-false type 3 g, eqb-false type 4 h, w.known.0, w.known.1))

-- -- The types together

-- in vital signs no type excludes another
pub none_excluded : (ts : List ℕ) (t : ℕ) → NoneExcludes vital_says ts t
unfolding NoneExcludes
none_excluded [] t = tt
none_excluded (s ∷ ts) t = (λ e. e, none_excluded ts t)

any_together : (ts us : List ℕ) → NoneAgain vital_says ts us
unfolding NoneAgain
any_together ts [] = tt
any_together ts (u ∷ us) = (none_excluded ts u, any_together (u ∷ ts) us)

-- -- The total length

total_legal_lem : (l : ℕ) → VitalBounds l → vital_total l ≡ true
unfolding vital_total
total_legal_lem l b = rw (eq-eqb (l % 4) 0 b.0, ne_eqb l 44 b.1, le-leb 40 l b.2, le-leb l 32768 b.3)

follows : (k e l : ℕ) → 40 ≤ l → l ≤ 32768 → l ≡ 40 + e → e % 4 ≡ 0 → 8 * k ≤ e → (k ≡ 0 → e ≡ 0) → vital_total l ≡ true
follows zero e l h i s u j z = total_legal_lem l (omega (arith, z refl), λ f. omega (arith, z refl), h, i)
follows (suc k) e l h i s u j z = total_legal_lem l (omega arith, λ f. omega arith, h, i)

-- the vital-signs profile says paper 02's sentences
pub vital_says_lem : Says vital_signs vital_says
unfolding vital_signs
vital_says_lem = record {
  kind_is = refl;
  legal_says = λ n type m. (legal_forth type m, legal_back type m);
  marks_say = λ s t. (λ h e. e, λ h. refl);
  together_says = λ types. (λ h. any_together [] types, λ h. tt);
  total_says = λ l. (vital_bounds l, total_legal_lem l);
  objects_says = λ n. (eqb-true n 99, eq-eqb n 99);
  subframe_says = λ v. (eqb-true v 0, eq-eqb v 0);
  fits_near = λ e l s. (omega arith, omega arith);
  near_fits = λ e l t h i. omega arith;
  bounds = λ l t. let b = vital_bounds l t in (b.2, b.3);
  alone = λ l t. let b = vital_bounds l t in (λ h. omega (arith, b.2), λ h. omega arith);
  total_follows = follows;
}

-- "So L must be a multiple of 4 and not 44, and K is 0 exactly if L is 40" (paper 02, (i)): it follows from the rest
pub vital_lengths : (bs : List ℕ) → Packet vital_says bs
    → (length bs % 4 ≡ 0) × (length bs ≡ 44 → ⊥) × ((little_at 4 32 bs ≡ 0) ↔ (length bs ≡ 40))
unfolding vital_signs
vital_lengths bs g =
    let b = vital_bounds (length bs) (packet_total vital_signs vital_sound vital_says vital_says_lem bs g) in
    let r = packet_records vital_signs vital_sound vital_says vital_says_lem bs g in (
      b.0,
      b.1,
      (λ h. omega (arith, g.fits, records_end r h), λ h. omega (arith, g.fits, records_least r)),
    )
