-- The search for a distance's bound: what is within stays within for lesser bits, so halving the bits between one that is and one that is
-- not ends at the greatest that is.
use mathlib.Core.Bool.{true, false}
use mathlib.Core.Path.{◌≡◌, refl, sym, ap, ◌∙◌}
use mathlib.Core.Logic.{◌⊎◌, inl, inr}
use Prim.Native.Nat.{ℕ, ◌+◌, ◌*◌, ◌/◌, ◌%◌, ◌^◌, ◌<◌, ◌≤◌}
use native.Mathlib.Nat.{mul-le-mul_left, le_trans}
use native.Mathlib.Omega.{arith}
use native.Mathlib.Decide.{dec_lt}
use lib.Dec.{eqb, leb, lit<}
use lib.IntN.{nat_abs}
use borrow.Author.Tests.{eqb-true, eq-eqb, leb-true, leb-false, le-leb, lt-leb, lt-ltb, le-ltb}
use Rattle.digits.proofs.Choices.{test, either, both_ways, and_parts, and_both}
use Rattle.std.specs.Prelude.{Ok, Err}
use Rattle.std.specs.Result.{result_unwrap_or}
use Rattle.refusals.specs.declared.Refusal.{Refusal}
use Rattle.refusals.specs.declared.Refusal.TheVariants.{TooDistant}
use Rattle.refusals.specs.Numbers.{refusal_number}
use Rattle.refusals.proofs.NumberLaws.{number_ne0}
use Rattle.units.specs.declared.Ties.{Ties}
use Rattle.units.specs.Float.{negative, significand, scale, magnitude}
use Rattle.units.specs.Rounding.{nearest}
use Rattle.units.specs.Units.{Edition, ties_of, ties_named, coordinate, millimetres}
use Rattle.units.proofs.Bits.{limit_bits}
use Rattle.units.proofs.Rising.{nearest_rises, magnitude_rises}
use Rattle.units.proofs.Rounding.{nat_abs_signed}
use Rattle.units.proofs.Theorems.{edition_exactly, no_edition, named, unnamed, millimetres_0, given}
use Rattle.coordinate_bounds.specs.Bounds.{is_within, max_distance, sign_last, Bounds, Greatest}

-- of 32 bits the first is the sign
pub turned_left : (bits : ℕ) → bits < 2 ^ 32 → 2 * (bits % 2 ^ 31) + bits / 2 ^ 31 ≡ sign_last bits
unfolding sign_last
turned_left bits l = omega arith

-- with the sign last, the bits compare with a limit that leaves room for it as they do without
sign_last_most : (b bits : ℕ) → leb (b % 2 ^ 31) bits ≡ leb (sign_last b) (2 * bits + 1)
unfolding sign_last
sign_last_most b bits =
    test (leb (b % 2 ^ 31) bits)
    (λ t. t ∙ sym (le-leb (2 * (b % 2 ^ 31) + b / 2 ^ 31 % 2) (2 * bits + 1) (omega (arith, leb-true (b % 2 ^ 31) bits t))))
    (λ f. f ∙ sym (lt-leb (2 * (b % 2 ^ 31) + b / 2 ^ 31 % 2) (2 * bits + 1) (omega (arith, leb-false (b % 2 ^ 31) bits f))))

module _ (edition d : ℕ) where
  -- the float with these bits is within the distance
  abbrev pub Within : ℕ → Type 0
  Within bits = is_within d (millimetres edition bits) ≡ true

  -- the magnitude of an answer that is no refusal
  answered : (bits : ℕ) → (millimetres edition bits).refusal ≡ 0
      → nat_abs (millimetres edition bits).value ≡ nearest (ties_of edition) (1000 * magnitude bits) (2 ^ 150)
  answered bits h = ap nat_abs (given edition bits h) ∙ nat_abs_signed (negative bits) _

  -- what is within stays within for lesser bits
  falls : (a b : ℕ) → a % 2 ^ 31 ≤ b % 2 ^ 31 → Within b → Within a
  falls a b l w =
      let both = and_parts (eqb (millimetres edition b).refusal 0) (leb (nat_abs (millimetres edition b).value) d) w in
      let e = eqb-true (millimetres edition b).refusal 0 both.0 in
      let m = (millimetres_0 edition b).0 e in
      let n = m.1 in
      let f : (millimetres edition a).refusal ≡ 0 = (millimetres_0 edition a).1
      (m.0, (λ x. n (omega arith)), le_trans (magnitude_rises a b l) m.2) in
      let rises = nearest_rises (ties_of edition) (1000 * magnitude a) (1000 * magnitude b) (2 ^ 150) (lit< tt)
      (mul-le-mul_left 1000 (magnitude_rises a b l)) in
      let most = leb-true (nat_abs (millimetres edition b).value) d both.1 in
      and_both (eqb (millimetres edition a).refusal 0) (leb (nat_abs (millimetres edition a).value) d)
      (eq-eqb (millimetres edition a).refusal 0 f)
      (le-leb (nat_abs (millimetres edition a).value) d (rw (answered a f) (le_trans rises (rw (answered b e) at most))))

  -- no distance is less than that of 0
  nought : Edition edition → Within 0
  unfolding millimetres coordinate ties_of significand scale nearest
  nought (inl e) = rw e (le-leb 0 d (omega arith))
  nought (inr e) = rw e (le-leb 0 d (omega arith))

  -- -- The search

  -- what the search keeps: the low bits are 0 or within, the high ones are not
  pub record Narrowed (low high : ℕ) : Type 0 where
    pub apart : low < high
    pub small : high ≤ 0x447A0001
    pub inside : (low ≡ 0) ⊎ Within low
    pub outside : is_within d (millimetres edition high) ≡ false

  pub narrowed_start : Narrowed 0 0x447A0001
  narrowed_start = record { apart = lit< tt; small = omega arith; inside = inl refl; outside = far }
    where
      -- what is over 1000 m is refused
      far : is_within d (millimetres edition 0x447A0001) ≡ false
      far =
          test (eqb (millimetres edition 0x447A0001).refusal 0)
          (λ y.
          let m = ((millimetres_0 edition 0x447A0001).0 (eqb-true (millimetres edition 0x447A0001).refusal 0 y)).2 in
          both_ways _ (limit_bits 0x447A0001) (le-ltb (1000 * 2 ^ 150) (magnitude 0x447A0001) m))
          (λ n. rw n refl)

  pub narrowed_up : (low high middle : ℕ) → low < middle → middle < high → Narrowed low high → Within middle → Narrowed middle high
  narrowed_up low high middle l m n w = record { apart = m; small = n.small; inside = inr w; outside = n.outside }

  pub narrowed_down : (low high middle : ℕ) → low < middle → middle < high → Narrowed low high
      → is_within d (millimetres edition middle) ≡ false → Narrowed low middle
  narrowed_down low high middle l m n f =
      let s = n.small in record { apart = l; small = omega arith; inside = n.inside; outside = f }

  -- at its end
  pub narrowed_end : (low high : ℕ) → high ≤ low + 1 → Narrowed low high → Greatest edition d low
  narrowed_end low high l n = record {
    small = let a = n.apart in let s = n.small in omega arith;
    exactly = λ ed bits. by_order ed bits (dec_lt low (bits % 2 ^ 31));
  }
    where
      by_order : Edition edition → (bits : ℕ) → Dec (low < bits % 2 ^ 31) → is_within d (millimetres edition bits) ≡ leb (bits % 2 ^ 31) low
      by_order ed bits (yes g) =
          let s = n.small in
          rw (lt-leb (bits % 2 ^ 31) low g)
          (test (is_within d (millimetres edition bits)) (λ t. both_ways _ (falls high bits (omega arith) t) n.outside) (λ f. f))
      by_order ed bits (no g) =
          let s = n.small in let a = n.apart in
          rw (le-leb (bits % 2 ^ 31) low (omega arith))
          (either n.inside (λ z. falls bits 0 (omega arith) (nought ed)) (λ w. falls bits low (omega arith) w))

  -- -- The answer

  -- an edition that there is none of has no rule
  pub bound_no_edition : (why : Refusal) → Err why ≡ ties_named edition → Bounds edition d (Err why)
  bound_no_edition why e = record {
    refuses = let told = unnamed edition why (sym e) in rw (told.0, (no_edition edition).1 told.1);
    tells = λ limit z. absurd (number_ne0 why (ap refusal_number z));
  }

  module _ (ties : Ties) (e : Ok ties ≡ ties_named edition) where
    named_edition : Edition edition
    named_edition = named edition ties (sym e)

    pub bound_too_distant : max_distance < d → Bounds edition d (Err TooDistant)
    bound_too_distant l = record {
      refuses = rw ((edition_exactly edition).1 named_edition, lt-ltb max_distance d l);
      tells = λ limit z. absurd (number_ne0 TooDistant (ap refusal_number z));
    }

    pub bound_found : (bits : ℕ) → d ≤ max_distance → Greatest edition d bits → Bounds edition d (Ok (2 * bits + 1))
    bound_found bits l g = record {
      refuses = rw ((edition_exactly edition).1 named_edition, le-ltb max_distance d l);
      tells = λ limit z b.
          g.exactly named_edition b
          ∙ sign_last_most b bits
          ∙ ap (λ (n : ℕ). leb (sign_last b) n) (ap (λ r. result_unwrap_or r 0) z);
    }
