-- The number of marks seen tells which types are excluded. The idea: a type is fresh if its mark shares no bit with any mark seen.
use mathlib.Core.Bool.{Bool, true, false, cond}
use mathlib.Core.Path.{◌≡◌, refl, sym, ap, ◌∙◌}
use mathlib.Core.Logic.{◌↔◌, inl, inr}
use Prim.Native.Nat.{ℕ, zero, suc, ◌+◌, ◌*◌, ◌/◌, ◌%◌, ◌^◌, ◌<◌, ◌≤◌, min, max}
use native.Mathlib.Omega.{arith}
use native.Mathlib.Decide.{dec_lt, dec_le}
use native.Mathlib.Nat.{mod-lt, one-mul}
use lib.Arith.{bin_ind}
use lib.Bits.{bit_and, bit_or, and_step, or_step, and_self, and_comm, and_zero_r, and_shifted, or_shr}
use lib.Dec.{eqb}
use lib.Pow.{pow_pos, pow-lt}
use borrow.Author.Tests.{eq-eqb, ne_eqb, le-leb, lt-leb, eqb-true, eqb-false}
use Rattle.mmwave.specs.Profile.{Profile, fresh, see}
use Rattle.mmwave.specs.MmWave.{once_bit, once_mark}
use Rattle.mmwave.specs.Paper.{KnownAgain}

-- -- Bits of two numbers together

-- two numbers share no bit
abbrev pub Apart : ℕ → ℕ → Type 0
Apart a b = bit_and a b ≡ 0

-- the same of numbers below 2
digits_apart : (x y z : ℕ) → x < 2 → y < 2 → z < 2 → (min (max x y) z ≡ 0) ↔ ((min x z ≡ 0) × (min y z ≡ 0))
digits_apart x y z a b c = (λ h. (omega arith, omega arith), λ h. omega (arith, h.0, h.1))

sum_zero : (x y : ℕ) → (x * 2 + y ≡ 0) ↔ ((x ≡ 0) × (y ≡ 0))
sum_zero x y = (λ h. (omega arith, omega arith), λ h. omega (arith, h.0, h.1))

-- one binary digit more
module _ (s a b : ℕ) (halves : Apart (bit_or (s / 2) (a / 2)) (b / 2) ↔ (Apart (s / 2) (b / 2) × Apart (a / 2) (b / 2))) where
  digits : (min (max (s % 2) (a % 2)) (b % 2) ≡ 0) ↔ ((min (s % 2) (b % 2) ≡ 0) × (min (a % 2) (b % 2) ≡ 0))
  digits = digits_apart (s % 2) (a % 2) (b % 2) (mod-lt s {m = 2} (omega arith)) (mod-lt a {m = 2} (omega arith))
      (mod-lt b {m = 2} (omega arith))

  parts : bit_and (bit_or s a) b ≡ bit_and (bit_or (s / 2) (a / 2)) (b / 2) * 2 + min (max (s % 2) (a % 2)) (b % 2)
  parts =
      let half : bit_or s a / 2 ≡ bit_or (s / 2) (a / 2) = or_shr s a 1 in
      let digit : bit_or s a % 2 ≡ max (s % 2) (a % 2) = omega (arith, or_step s a, or_shr s a 1) in
      and_step (bit_or s a) b ∙ rw (half, digit)

  apart_step : Apart (bit_or s a) b ↔ (Apart s b × Apart a b)
  apart_step = (
    λ h. let g = (sum_zero _ _).0 (sym parts ∙ h) in let i = halves.0 g.0 in let j = digits.0 g.1 in
        (and_step s b ∙ (sum_zero _ _).1 (i.0, j.0), and_step a b ∙ (sum_zero _ _).1 (i.1, j.1)),
    λ h. let x = (sum_zero _ _).0 (sym (and_step s b) ∙ h.0) in let y = (sum_zero _ _).0 (sym (and_step a b) ∙ h.1) in
        parts ∙ (sum_zero _ _).1 (halves.1 (x.0, y.0), digits.1 (x.1, y.1)),
  )

-- what two numbers hold together shares no bit with a third exactly if neither of them does
pub apart_both : (s a b : ℕ) → Apart (bit_or s a) b ↔ (Apart s b × Apart a b)
apart_both s = bin_ind (λ (n : ℕ). (a b : ℕ) → Apart (bit_or n a) b ↔ (Apart n b × Apart a b))
    (λ a b. (λ h. (refl, h), λ h. h.1)) (λ n halves a b. apart_step n a b (halves (a / 2) (b / 2))) s

-- -- The types seen, for any profile

module _ (P : Profile) where
  -- a type is fresh exactly if its mark shares no bit with what has been seen
  fresh_apart : (seen t : ℕ) → (fresh P seen t ≡ true) ↔ Apart seen (P.mark t)
  unfolding fresh
  fresh_apart seen t = let x = bit_and seen (P.mark t) in (eqb-true x 0, eq-eqb x 0)

  -- by the mark that the code has found
  module _ (seen t : ℕ) {mark : ℕ} (mark_is : mark ≡ P.mark t) where
    pub unseen : bit_and seen mark ≡ 0 → fresh P seen t ≡ true
    unseen h = (fresh_apart seen t).1 (ap (bit_and seen) (sym mark_is) ∙ h)

    pub seen_again : (bit_and seen mark ≡ 0 → ⊥) → fresh P seen t ≡ false
    unfolding fresh
    seen_again n = rw (← mark_is) (ne_eqb (bit_and seen mark) 0 n)

    pub seen_with : bit_or seen mark ≡ see P seen t
    unfolding see
    seen_with = ap (bit_or seen) mark_is

  -- nothing has been seen
  pub fresh_first : (t : ℕ) → fresh P 0 t ≡ true
  fresh_first t = (fresh_apart 0 t).1 refl

  -- a type without a mark may repeat
  pub fresh_unmarked : (seen t : ℕ) → P.mark t ≡ 0 → fresh P seen t ≡ true
  fresh_unmarked seen t e = (fresh_apart seen t).1 (ap (bit_and seen) e ∙ and_zero_r seen)

  -- with one type more seen, a type is fresh exactly if it was and that one's mark is apart from its own
  pub fresh_more : (seen s t : ℕ) → (fresh P (see P seen s) t ≡ true) ↔ ((fresh P seen t ≡ true) × Apart (P.mark s) (P.mark t))
  unfolding see
  fresh_more seen s t =
      let b = apart_both seen (P.mark s) (P.mark t) in let f = fresh_apart seen t in let g = fresh_apart (see P seen s) t in
      (λ h. let x = b.0 (g.0 h) in (f.1 x.0, x.1), λ h. g.1 (b.1 (f.0 h.0, h.1)))

-- -- The marks of mmWave types

-- the mark of a bit
bit_mark : ℕ → ℕ
bit_mark i = cond (eqb i 0) 0 (2 ^ i)

-- two marks share a bit exactly if they are of one bit
marks_apart : (i j : ℕ) → Apart (bit_mark i) (bit_mark j) ↔ ((i ≡ j) × (i ≡ 0 → ⊥) → ⊥)
unfolding bit_mark
marks_apart zero j = (λ h g. g.1 refl, λ n. refl)
marks_apart (suc i) zero = (λ h g. omega (arith, g.0), λ n. rw (ne_eqb (suc i) 0 (omega arith)) (and_zero_r (2 ^ suc i)))
marks_apart (suc i) (suc j) = rw (ne_eqb (suc i) 0 (omega arith), ne_eqb (suc j) 0 (omega arith)) (go (dec_lt i j) (dec_lt j i))
  where
    lower : (a b : ℕ) → a < b → Apart (2 ^ b) (2 ^ a)
    lower a b h = ap (λ (x : ℕ). bit_and x (2 ^ a)) (sym (one-mul (2 ^ b))) ∙ and_shifted 1 b (2 ^ a) (pow-lt h)

    go : Dec (i < j) → Dec (j < i) → Apart (2 ^ suc i) (2 ^ suc j) ↔ ((suc i ≡ suc j) × (suc i ≡ 0 → ⊥) → ⊥)
    go (yes l) d = (λ h g. omega (arith, g.0), λ n. and_comm (2 ^ suc i) (2 ^ suc j) ∙ lower (suc i) (suc j) (omega arith))
    go (no l) (yes d) = (λ h g. omega (arith, g.0), λ n. lower (suc j) (suc i) (omega arith))
    go (no l) (no d) =
        let e : suc i ≡ suc j = omega arith in
        let same = sym (and_self (2 ^ suc j)) ∙ ap (λ (k : ℕ). bit_and (2 ^ k) (2 ^ suc j)) (sym e) in
        (λ h g. omega (arith, pow_pos (suc j), same ∙ h), λ n. absurd (n (e, λ z. omega arith)))

-- which bit a type has
data Bit (t : ℕ) : Type 0 where
  shared : t ≡ 8 → once_bit t ≡ 4 → Bit t
  own : (t ≡ 8 → ⊥) → t ≤ 9 → once_bit t ≡ t → Bit t
  none : 9 < t → once_bit t ≡ 0 → Bit t

bit : (t : ℕ) → Bit t
unfolding once_bit
bit t = go (eqb t 8) refl (dec_le t 9)
  where
    go : (b : Bool) → eqb t 8 ≡ b → Dec (t ≤ 9) → Bit t
    go true e d = shared (eqb-true t 8 e) (rw e)
    go false e (yes d) = own (eqb-false t 8 e) d (rw (e, le-leb t 9 d))
    go false e (no d) = none (omega arith) (rw (e, lt-leb t 9 (omega arith)))

-- a type excludes another exactly if they have one bit
bits_exclude : (s t : ℕ) → KnownAgain s t ↔ ((once_bit s ≡ once_bit t) × (once_bit s ≡ 0 → ⊥))
bits_exclude s t = go (bit s) (bit t)
  where
    one : {A : Type 0} → KnownAgain s t → (s ≡ t → 1 ≤ s → s ≤ 9 → A) → (s ≡ 4 → t ≡ 8 → A) → (s ≡ 8 → t ≡ 4 → A) → A
    one (inl h) f g k = f h.2 h.0 h.1
    one (inr (inl h)) f g k = g h.0 h.1
    one (inr (inr h)) f g k = k h.0 h.1

    never : {A : Type 0} → (s ≡ t → 1 ≤ s → s ≤ 9 → ⊥) → (s ≡ 4 → t ≡ 8 → ⊥) → (s ≡ 8 → t ≡ 4 → ⊥) → KnownAgain s t → A
    never f g k e = absurd (one e f g k)

    some : (n : ℕ) → (n ≡ 0 → ⊥) → 1 ≤ n
    some zero n = absurd (n refl)
    some (suc n) h = omega arith

    go : Bit s → Bit t → KnownAgain s t ↔ ((once_bit s ≡ once_bit t) × (once_bit s ≡ 0 → ⊥))
    go (shared a x) (shared b y) = (λ e. (omega arith, λ z. omega arith), λ g. inl (omega arith, omega arith, omega arith))
    go (shared a x) (own b d y) = (
      λ e. one e (λ p q r. absurd (b (omega arith))) (λ p q. absurd (omega arith)) (λ p q. (omega arith, λ z. omega arith)),
      λ g. inr (inr (a, omega (arith, g.0))),
    )
    go (shared a x) (none b y) = (never (λ p q r. omega arith) (λ p q. omega arith) (λ p q. omega arith), λ g. absurd (omega (arith, g.0)))
    go (own a c x) (shared b y) = (
      λ e. one e (λ p q r. absurd (a (omega arith))) (λ p q. (omega arith, λ z. omega arith)) (λ p q. absurd (a p)),
      λ g. inr (inl (omega (arith, g.0), b)),
    )
    go (own a c x) (own b d y) = (
      λ e. one e (λ p q r. (omega arith, λ z. omega arith)) (λ p q. absurd (b q)) (λ p q. absurd (a p)),
      λ g. inl (some s (λ z. g.1 (x ∙ z)), c, omega (arith, g.0)),
    )
    go (own a c x) (none b y) = (never (λ p q r. omega arith) (λ p q. omega arith) (λ p q. omega arith), λ g. absurd (g.1 (g.0 ∙ y)))
    go (none a x) d = (never (λ p q r. omega arith) (λ p q. omega arith) (λ p q. omega arith), λ g. absurd (g.1 x))

-- the marks of two types are apart exactly if the first does not exclude the second
pub marks_exclude : (s t : ℕ) → Apart (once_mark s) (once_mark t) ↔ (KnownAgain s t → ⊥)
unfolding once_mark bit_mark
marks_exclude s t = let m = marks_apart (once_bit s) (once_bit t) in let x = bits_exclude s t in
    (λ h e. m.0 h (x.0 e), λ n. m.1 (λ g. n (x.1 g)))
