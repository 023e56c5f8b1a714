-- The laws by which the code of the tests is proved: one for each case of a definition.
use mathlib.Core.Bool.{Bool, true, false, cond, ◌&&◌}
use mathlib.Core.Path.{◌≡◌, refl, sym, ap, ◌∙◌}
use Prim.Native.Nat.{ℕ, zero, suc, ◌+◌, ◌-◌, ◌*◌, ◌%◌, ◌<◌, ◌≤◌}
use native.Mathlib.Omega.{arith}
use lib.Bits.{bit_and, and_mask}
use lib.Dec.{eqb, leb}
use borrow.Author.Tests.{eq-eqb, ne_eqb, le-leb, lt-leb, lt-ltb, le-ltb}
use Rattle.digits.proofs.Choices.{and_parts}
use Rattle.mmwave.specs.declared.PacketDialect.{PacketDialect}
use Rattle.mmwave.specs.declared.PacketDialect.TheVariants.{MmWave, VitalSigns}
use Rattle.mmwave.specs.declared.Rule.{Rule}
use Rattle.mmwave.specs.declared.Rule.TheVariants.{Never, Exact, Multiple, Free}
use Rattle.mmwave.specs.declared.Unit.{Unit}
use Rattle.mmwave.specs.declared.Unit.TheVariants.{Two, Four, Sixteen}
use Rattle.mmwave.specs.Profile.{Profile, unit_of, legal, count_ok, fits, possible, length_ok}
use Rattle.mmwave.specs.MmWave.{mm_wave, total_legal, per_object, payload_rule, once_bit, once_mark}
use Rattle.mmwave.specs.VitalSigns.{vital_signs, vital_total, vital_rule}
use Rattle.mmwave.specs.Dialects.{profile_of}
use Rattle.mmwave.specs.Internal.{low_bits}
use Rattle.mmwave.proofs.Tests.{fits_exactly, possible_exactly}

-- -- By the dialect

-- what holds of the profile of one dialect holds where the dialect is that one
pub of_dialect : {A : Type 0} (f : Profile → A) {d e : PacketDialect} {x : A} → x ≡ f (profile_of e) → d ≡ e → x ≡ f (profile_of d)
of_dialect f h g = h ∙ ap (λ (d : PacketDialect). f (profile_of d)) (sym g)

module _ {d : PacketDialect} (e : d ≡ MmWave) where
  pub total_mmwave : (l : ℕ) {b : Bool} → b ≡ total_legal l → b ≡ (profile_of d).total l
  unfolding profile_of mm_wave
  total_mmwave l h = of_dialect (λ (P : Profile). P.total l) h e

  pub objects_mmwave : (n : ℕ) → true ≡ (profile_of d).objects n
  unfolding profile_of mm_wave
  objects_mmwave n = of_dialect (λ (P : Profile). P.objects n) refl e

  pub subframe_mmwave : (v : ℕ) → true ≡ (profile_of d).subframe v
  unfolding profile_of mm_wave
  subframe_mmwave v = of_dialect (λ (P : Profile). P.subframe v) refl e

  pub rule_mmwave : (type n : ℕ) {rule : Rule} → rule ≡ payload_rule type n → rule ≡ (profile_of d).rule type n
  unfolding profile_of mm_wave
  rule_mmwave type n h = of_dialect (λ (P : Profile). P.rule type n) h e

  pub mark_mmwave : (type : ℕ) {m : ℕ} → m ≡ once_mark type → m ≡ (profile_of d).mark type
  unfolding profile_of mm_wave
  mark_mmwave type h = of_dialect (λ (P : Profile). P.mark type) h e

module _ {d : PacketDialect} (e : d ≡ VitalSigns) where
  pub total_vital : (l : ℕ) {b : Bool} → b ≡ vital_total l → b ≡ (profile_of d).total l
  unfolding profile_of vital_signs
  total_vital l h = of_dialect (λ (P : Profile). P.total l) h e

  pub objects_vital : (n : ℕ) → eqb n 99 ≡ (profile_of d).objects n
  unfolding profile_of vital_signs
  objects_vital n = of_dialect (λ (P : Profile). P.objects n) refl e

  pub subframe_vital : (v : ℕ) → eqb v 0 ≡ (profile_of d).subframe v
  unfolding profile_of vital_signs
  subframe_vital v = of_dialect (λ (P : Profile). P.subframe v) refl e

  pub rule_vital : (type n : ℕ) {rule : Rule} → rule ≡ vital_rule type → rule ≡ (profile_of d).rule type n
  unfolding profile_of vital_signs
  rule_vital type n h = of_dialect (λ (P : Profile). P.rule type n) h e

  pub mark_vital : (type : ℕ) → 0 ≡ (profile_of d).mark type
  unfolding profile_of vital_signs
  mark_vital type = of_dialect (λ (P : Profile). P.mark type) refl e

-- -- The total length

-- no dialect has a length that is not a multiple of 4
pub total_ragged : (d : PacketDialect) (l : ℕ) → (l % 4 ≡ 0 → ⊥) → false ≡ (profile_of d).total l
unfolding profile_of mm_wave vital_signs total_legal vital_total
total_ragged MmWave l n = rw (ne_eqb (l % 32) 0 (λ e. n (omega arith)))
total_ragged VitalSigns l n = rw (ne_eqb (l % 4) 0 n)

module _ (l : ℕ) where
  pub mmwave_ragged : (l % 32 ≡ 0 → ⊥) → false ≡ total_legal l
  unfolding total_legal
  mmwave_ragged n = rw (ne_eqb (l % 32) 0 n)

  pub mmwave_short : l % 32 ≡ 0 → l < 64 → false ≡ total_legal l
  unfolding total_legal
  mmwave_short m s = rw (eq-eqb (l % 32) 0 m, lt-leb 64 l s)

  pub mmwave_long : l % 32 ≡ 0 → 64 ≤ l → leb l 32768 ≡ total_legal l
  unfolding total_legal
  mmwave_long m s = rw (eq-eqb (l % 32) 0 m, le-leb 64 l s)

  pub vital_ragged : (l % 4 ≡ 0 → ⊥) → false ≡ vital_total l
  unfolding vital_total
  vital_ragged n = rw (ne_eqb (l % 4) 0 n)

  pub vital_half : l % 4 ≡ 0 → l ≡ 44 → false ≡ vital_total l
  unfolding vital_total
  vital_half m e = rw (eq-eqb (l % 4) 0 m, eq-eqb l 44 e)

  pub vital_short : l % 4 ≡ 0 → (l ≡ 44 → ⊥) → l < 40 → false ≡ vital_total l
  unfolding vital_total
  vital_short m n s = rw (eq-eqb (l % 4) 0 m, ne_eqb l 44 n, lt-leb 40 l s)

  pub vital_long : l % 4 ≡ 0 → (l ≡ 44 → ⊥) → 40 ≤ l → leb l 32768 ≡ vital_total l
  unfolding vital_total
  vital_long m n s = rw (eq-eqb (l % 4) 0 m, ne_eqb l 44 n, le-leb 40 l s)

-- -- The record count

module _ (P : Profile) (l k : ℕ) where
  pub count_many : 32 < k → false ≡ count_ok P l k
  unfolding count_ok
  count_many m = rw (lt-leb k 32 m)

  pub count_tight : k ≤ 32 → l < 40 + 8 * k → false ≡ count_ok P l k
  unfolding count_ok
  count_tight m t = rw (le-leb k 32 m, lt-leb (40 + 8 * k) l t)

  pub count_some : k ≤ 32 → 40 + 8 * k ≤ l → 0 < k → true ≡ count_ok P l k
  unfolding count_ok
  count_some m t s = rw (le-leb k 32 m, le-leb (40 + 8 * k) l t, lt-ltb 0 k s)

  pub count_none : {q : ℕ} → k ≤ 32 → 40 + 8 * k ≤ l → k ≤ 0 → q ≡ P.padding → leb (l - 40) q ≡ count_ok P l k
  unfolding count_ok
  count_none m t s e = rw (le-leb k 32 m, le-leb (40 + 8 * k) l t, le-ltb 0 k s, e)

-- -- The rule of a type

pub rule_type : (n : ℕ) {i type : ℕ} → i ≡ type → payload_rule type n ≡ payload_rule i n
rule_type n e = ap (λ (i : ℕ). payload_rule i n) (sym e)

pub no_objects : (size n : ℕ) → n ≡ 0 → Never ≡ per_object size n
unfolding per_object
no_objects size n e = rw (eq-eqb n 0 e)

pub some_objects : (size n : ℕ) {b : ℕ} → (n ≡ 0 → ⊥) → b ≡ size * n → Exact b ≡ per_object size n
unfolding per_object
some_objects size n m e = rw (ne_eqb n 0 m, e)

-- -- The mark of a type

pub mark_type : {i type : ℕ} → i ≡ type → once_mark type ≡ once_mark i
mark_type e = ap once_mark (sym e)

positive : (n : ℕ) → 0 < suc n
positive n = omega arith

beyond_four : (type : ℕ) → 0 < type → (type ≡ 1 → ⊥) → (type ≡ 2 → ⊥) → (type ≡ 3 → ⊥) → (type ≡ 4 → ⊥) → 4 < type
beyond_four type h n₁ n₂ n₃ n₄ = omega arith

beyond_nine : (type : ℕ) → 4 < type → (type ≡ 5 → ⊥) → (type ≡ 6 → ⊥) → (type ≡ 7 → ⊥) → (type ≡ 8 → ⊥) → (type ≡ 9 → ⊥) → 9 < type
beyond_nine type h n₅ n₆ n₇ n₈ n₉ = omega arith

-- a type that is none of the known ones has no mark
pub mark_other : (type : ℕ) → (type ≡ 1 → ⊥) → (type ≡ 2 → ⊥) → (type ≡ 3 → ⊥) → (type ≡ 4 → ⊥) → (type ≡ 5 → ⊥) → (type ≡ 6 → ⊥)
    → (type ≡ 7 → ⊥) → (type ≡ 8 → ⊥) → (type ≡ 9 → ⊥) → 0 ≡ once_mark type
unfolding once_mark once_bit
mark_other zero n₁ n₂ n₃ n₄ n₅ n₆ n₇ n₈ n₉ = refl
mark_other (suc type) n₁ n₂ n₃ n₄ n₅ n₆ n₇ n₈ n₉ =
    let four = beyond_four (suc type) (positive type) n₁ n₂ n₃ n₄ in
    let nine = beyond_nine (suc type) four n₅ n₆ n₇ n₈ n₉ in
    rw (ne_eqb (suc type) 8 n₈, lt-leb (suc type) 9 nine)

-- -- The fit of a payload length

module _ (P : Profile) (k room m : ℕ) where
  pub fits_over : room < m → false ≡ fits P k room m
  unfolding fits
  fits_over o = rw (lt-leb m room o)

  pub fits_more : 1 < k → leb m room ≡ fits P k room m
  unfolding fits
  fits_more b = rw (lt-ltb 1 k b) (and_true (leb m room))
    where
      and_true : (x : Bool) → x ≡ (x && true)
      and_true true = refl
      and_true false = refl

  pub fits_last : {q : ℕ} → m ≤ room → k ≤ 1 → q ≡ P.padding → leb (room - m) q ≡ fits P k room m
  unfolding fits
  fits_last w b e = rw (le-leb m room w, le-ltb 1 k b, e)

-- -- Multiples of a unit

-- the bits below a unit are what a number has beyond its multiples
pub masked : (unit : Unit) (m : ℕ) {low : ℕ} → low ≡ low_bits unit → bit_and m low ≡ m % unit_of unit
masked Two m e = ap (bit_and m) e ∙ and_mask m 1
masked Four m e = ap (bit_and m) e ∙ and_mask m 2
masked Sixteen m e = ap (bit_and m) e ∙ and_mask m 4

module _ (P : Profile) (k room : ℕ) (unit : Unit) where
  pub multiple_more : 1 < k → true ≡ possible P k room (Multiple unit)
  unfolding possible
  multiple_more b = rw (lt-ltb 1 k b)

  pub multiple_last : {x q : ℕ} → k ≤ 1 → x ≡ room % unit_of unit → q ≡ P.padding → leb x q ≡ possible P k room (Multiple unit)
  unfolding possible
  multiple_last b e f = rw (le-ltb 1 k b, e, f)

-- -- By the rule

-- some length of the rule fits
pub possible_never : (P : Profile) (k room : ℕ) {rule : Rule} → rule ≡ Never → false ≡ possible P k room rule
unfolding possible
possible_never P k room e = ap (possible P k room) (sym e)

pub possible_exact : (P : Profile) (k room n : ℕ) {rule : Rule} {b : Bool} → rule ≡ Exact n → b ≡ fits P k room n
    → b ≡ possible P k room rule
unfolding possible
possible_exact P k room n e f = f ∙ ap (possible P k room) (sym e)

pub possible_multiple : (P : Profile) (k room : ℕ) (unit : Unit) {rule : Rule} {b : Bool} → rule ≡ Multiple unit
    → b ≡ possible P k room (Multiple unit) → b ≡ possible P k room rule
possible_multiple P k room unit e f = f ∙ ap (possible P k room) (sym e)

pub possible_free : (P : Profile) (k room : ℕ) {rule : Rule} → rule ≡ Free → true ≡ possible P k room rule
unfolding possible
possible_free P k room e = ap (possible P k room) (sym e)

-- a length is one of the rule's
pub legal_never : (m : ℕ) {rule : Rule} → rule ≡ Never → false ≡ legal rule m
legal_never m e = ap (λ (rule : Rule). legal rule m) (sym e)

pub legal_exact : (m n : ℕ) {rule : Rule} → rule ≡ Exact n → eqb m n ≡ legal rule m
legal_exact m n e = ap (λ (rule : Rule). legal rule m) (sym e)

pub legal_multiple : (m : ℕ) (unit : Unit) {x : ℕ} {rule : Rule} → rule ≡ Multiple unit → x ≡ m % unit_of unit → eqb x 0 ≡ legal rule m
legal_multiple m unit e f = ap (λ (x : ℕ). eqb x 0) f ∙ ap (λ (rule : Rule). legal rule m) (sym e)

pub legal_free : (m : ℕ) {rule : Rule} → rule ≡ Free → true ≡ legal rule m
legal_free m e = ap (λ (rule : Rule). legal rule m) (sym e)

-- -- The length before the type

-- the reason of a record whose length does not pass, by the test of its type
pub reason_length : {t b : Bool} → t ≡ b → t ≡ true → ◌≡◌ {A = ℕ} 24 (cond b 24 23)
reason_length e h = ap (λ (b : Bool). cond b 24 23) (sym h ∙ e)

pub reason_type : {t b : Bool} → t ≡ b → t ≡ false → ◌≡◌ {A = ℕ} 23 (cond b 24 23)
reason_type e h = ap (λ (b : Bool). cond b 24 23) (sym h ∙ e)

-- a length that passes is one that lets its type pass
pub length_type : (P : Profile) (rule : Rule) (k room m : ℕ) → (k ≡ 0 → ⊥) → length_ok P rule k room m ≡ true
    → possible P k room rule ≡ true
unfolding length_ok
length_type P rule zero room m n h = absurd (n refl)
length_type P rule (suc k) room m n h = let g = and_parts (legal rule m) (fits P (suc k) room m) h in
    (possible_exactly P k room rule).1 (m, g.0, (fits_exactly P k room m).0 g.1)
