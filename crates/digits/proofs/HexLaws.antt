-- Hex numbers of any width: both directions, lengths and bounds. But for the laws of `digit_of`, every test on a byte goes through
-- one view of it, `Hexness`.
use mathlib.Core.Path.{◌≡◌, refl, sym, ◌∙◌}
use mathlib.Core.Bool.{Bool, true, false, ◌||◌}
use mathlib.Core.List.{List, [], ◌∷◌, ◌++◌, append-nil}
use Prim.Native.Nat.{ℕ, zero, suc, ◌+◌, ◌-◌, ◌*◌, ◌/◌, ◌%◌, ◌^◌, ◌<◌, ◌≤◌}
use native.Mathlib.Nat.{pow-succ', pow-le-pow_right, lt_of_lt_of_le, mul-le-mul_right, mul_assoc, add-zero, zero-add, one-mul}
use native.Mathlib.Numerals.{add-one}
use native.Mathlib.Decide.{dec_le}
use native.Mathlib.Omega.{arith}
use borrow.Author.Tests.{le-leb, lt-leb}
use lib.ListN.{length, take, drop, length-take, length-append}
use lib.Seq.{append_snoc}
use Rattle.digits.specs.Bytes.{is_hex, within}
use Rattle.digits.specs.Hex.{digit, glyph, hex_from, hex_value, hex_digits, hex_at, AllHex}

-- -- A digit by the tests of the code

-- a figure or a letter
pub hex_of : (b : ℕ) (figure letter : Bool) → figure ≡ within 48 57 b → letter ≡ within 65 70 b → (figure || letter) ≡ is_hex b
hex_of b figure letter e f = rw (e, f)

module _ (b : ℕ) where
  -- 0 to 9
  pub digit_figure : within 48 57 b ≡ true → b - 48 ≡ digit b
  unfolding digit
  digit_figure h = rw h

  -- A to F
  pub digit_letter : within 48 57 b ≡ false → within 65 70 b ≡ true → b - 55 ≡ digit b
  unfolding digit
  digit_letter h l = rw (h, l)

  -- no digit
  pub digit_none : within 48 57 b ≡ false → within 65 70 b ≡ false → 0 ≡ digit b
  unfolding digit
  digit_none h l = rw (h, l)

-- -- A byte as a digit

-- what a byte is as a hex digit: 0 to 9, A to F, or none
pub data Hexness (b : ℕ) : Type 0 where
  low : 48 ≤ b → b ≤ 57 → is_hex b ≡ true → digit b ≡ b - 48 → Hexness b
  high : 65 ≤ b → b ≤ 70 → is_hex b ≡ true → digit b ≡ b - 55 → Hexness b
  none : is_hex b ≡ false → digit b ≡ 0 → Hexness b

-- the digits 0 to 9 and A to F, seen from the byte
low_is : (b : ℕ) → 48 ≤ b → b ≤ 57 → (is_hex b ≡ true) × (digit b ≡ b - 48)
unfolding digit
low_is b l u = (rw (le-leb 48 b l, le-leb b 57 u), rw (le-leb 48 b l, le-leb b 57 u))

high_is : (b : ℕ) → 65 ≤ b → b ≤ 70 → (is_hex b ≡ true) × (digit b ≡ b - 55)
unfolding digit
high_is b l u =
    let w : within 48 57 b ≡ false = rw (le-leb 48 b (omega arith), lt-leb b 57 (omega arith)) in
    (rw (w, le-leb 65 b l, le-leb b 70 u), rw (w, le-leb 65 b l, le-leb b 70 u))

is_none : (b : ℕ) → within 48 57 b ≡ false → within 65 70 b ≡ false → Hexness b
unfolding digit
is_none b p q = none (rw (p, q)) (rw (p, q))

-- every byte is one of the three
pub hexness : (b : ℕ) → Hexness b
hexness b = go (dec_le 48 b) (dec_le b 57) (dec_le 65 b) (dec_le b 70)
  where
    go : Dec (48 ≤ b) → Dec (b ≤ 57) → Dec (65 ≤ b) → Dec (b ≤ 70) → Hexness b
    go (yes l) (yes u) p q = let w = low_is b l u in low l u w.0 w.1
    go (no l) u p q = is_none b (rw (lt-leb 48 b (omega arith))) (rw (lt-leb 65 b (omega arith)))
    go (yes l) (no u) (yes p) (yes q) = let w = high_is b p q in high p q w.0 w.1
    go (yes l) (no u) (no p) q = is_none b (rw (le-leb 48 b l, lt-leb b 57 (omega arith))) (rw (lt-leb 65 b (omega arith)))
    go (yes l) (no u) (yes p) (no q) =
        is_none b (rw (le-leb 48 b l, lt-leb b 57 (omega arith))) (rw (le-leb 65 b p, lt-leb b 70 (omega arith)))

-- a digit stands for less than 16
pub digit_small : (b : ℕ) → digit b < 16
digit_small b = go (hexness b)
  where
    go : Hexness b → digit b < 16
    go (low l u h d) = omega arith
    go (high l u h d) = omega arith
    go (none h d) = omega arith

glyph_low : (d b : ℕ) → d ≡ b - 48 → 48 ≤ b → b ≤ 57 → glyph d ≡ b
unfolding glyph
glyph_low d b e l u = rw (le-leb d 9 (omega arith)) (omega arith)

glyph_high : (d b : ℕ) → d ≡ b - 55 → 65 ≤ b → b ≤ 70 → glyph d ≡ b
unfolding glyph
glyph_high d b e l u = rw (lt-leb d 9 (omega arith)) (omega arith)

-- a hex digit is the glyph of what it stands for
pub glyph_digit : (b : ℕ) → is_hex b ≡ true → glyph (digit b) ≡ b
glyph_digit b t = go (hexness b)
  where
    go : Hexness b → glyph (digit b) ≡ b
    go (low l u h d) = glyph_low (digit b) b d l u
    go (high l u h d) = glyph_high (digit b) b d l u
    go (none h d) = let z : ◌≡◌ {A = ℕ} 0 1 = cc in absurd (omega arith)

glyph_is : (d : ℕ) → d < 16 → (is_hex (glyph d) ≡ true) × (digit (glyph d) ≡ d)
unfolding glyph
glyph_is d h = go (dec_le d 9)
  where
    go : Dec (d ≤ 9) → (is_hex (glyph d) ≡ true) × (digit (glyph d) ≡ d)
    go (yes l) = rw (le-leb d 9 l) (let w = low_is (48 + d) (omega arith) (omega arith) in (w.0, omega arith))
    go (no n) = rw (lt-leb d 9 (omega arith)) (let w = high_is (55 + d) (omega arith) (omega arith) in (w.0, omega arith))

-- a glyph is a hex digit
pub glyph_hex : (d : ℕ) → d < 16 → is_hex (glyph d) ≡ true
glyph_hex d h = (glyph_is d h).0

-- a glyph stands for its digit
pub digit_glyph : (d : ℕ) → d < 16 → digit (glyph d) ≡ d
digit_glyph d h = (glyph_is d h).1

-- a hex digit is a byte 48 to 70
pub hex_range : (b : ℕ) → is_hex b ≡ true → (48 ≤ b) × (b ≤ 70)
hex_range b t = go (hexness b)
  where
    go : Hexness b → (48 ≤ b) × (b ≤ 70)
    go (low l u h d) = (l, omega arith)
    go (high l u h d) = (omega arith, u)
    go (none h d) = let z : ◌≡◌ {A = ℕ} 0 1 = cc in absurd (omega arith)

-- -- Widths and bounds

-- n digits are written for a number of n digits
pub length_digits : (n v : ℕ) → length (hex_digits n v) ≡ n
unfolding hex_digits
length_digits zero v = refl
length_digits (suc n) v = simp (length-append, length_digits n (v / 16)) (omega arith)

hex_append : (xs ys : List ℕ) → AllHex xs → AllHex ys → AllHex (xs ++ ys)
unfolding AllHex
hex_append [] ys h k = k
hex_append (x ∷ xs) ys (h, hs) k = (h, hex_append xs ys hs k)

-- what is written are hex digits
pub digits_hex : (n v : ℕ) → AllHex (hex_digits n v)
unfolding hex_digits AllHex
digits_hex zero v = tt
digits_hex (suc n) v =
    let last = glyph_hex (v % 16) (omega arith) in
    hex_append (hex_digits n (v / 16)) (glyph (v % 16) ∷ []) (digits_hex n (v / 16)) (last, tt)

-- one digit more behind i digits
pub hex_grows : (i v d : ℕ) → v < 16 ^ i → d < 16 → v * 16 + d < 16 ^ (i + 1)
hex_grows i v d h l = rw (add-one, pow-succ' 16 i) (omega arith)

from_below : (v : ℕ) (bs : List ℕ) → hex_from v bs < (v + 1) * 16 ^ length bs
unfolding hex_from
from_below v [] = omega arith
from_below v (b ∷ bs) =
    rw (pow-succ' 16 (length bs))
    (let d = digit_small b in
    let r = from_below (v * 16 + digit b) bs in
    let m = mul-le-mul_right {m = v * 16 + digit b + 1} {n = (v + 1) * 16} (16 ^ length bs) (omega arith) in
    let e = mul_assoc (v + 1) 16 (16 ^ length bs) in
    omega arith)

-- n digits give a number below 16 ^ n
pub value_below : (bs : List ℕ) → hex_value bs < 16 ^ length bs
value_below bs = let h = from_below 0 bs in rw (zero-add, one-mul) at h

-- the number in n digits at an offset is below 16 ^ n
pub hex_at_below : (n at : ℕ) (bs : List ℕ) → hex_at n at bs < 16 ^ n
hex_at_below n at bs =
    lt_of_lt_of_le (value_below (take n (drop at bs)))
    (pow-le-pow_right {n = 16} (omega arith) {j = n} (simp length-take (omega arith)))

-- -- Both directions

from_append : (v : ℕ) (xs ys : List ℕ) → hex_from v (xs ++ ys) ≡ hex_from (hex_from v xs) ys
unfolding hex_from
from_append v [] ys = refl
from_append v (x ∷ xs) ys = from_append (v * 16 + digit x) xs ys

-- a number below 16 ^ n, written in n digits, is read back
pub value_digits : (n v : ℕ) → v < 16 ^ n → hex_value (hex_digits n v) ≡ v
unfolding hex_digits hex_from
value_digits zero v h = omega arith
value_digits (suc n) v h =
    let k : v < 16 * 16 ^ n = rw (pow-succ' 16 n) at h in
    let r : hex_value (hex_digits n (v / 16)) ≡ v / 16 = value_digits n (v / 16) (omega arith) in
    from_append 0 (hex_digits n (v / 16)) (glyph (v % 16) ∷ []) ∙ rw (r, digit_glyph (v % 16) (omega arith)) (omega arith)

-- digits of a number with v in front: first those of v, then the bytes read
from_digits : (n v : ℕ) (bs : List ℕ) → AllHex bs → hex_digits (n + length bs) (hex_from v bs) ≡ hex_digits n v ++ bs
unfolding hex_digits hex_from AllHex
from_digits n v [] h = rw (add-zero n) (sym (append-nil (hex_digits n v)))
from_digits n v (b ∷ bs) (h, hs) =
    let d = digit_small b in
    let e : n + suc (length bs) ≡ suc n + length bs = omega arith in
    let q : (v * 16 + digit b) / 16 ≡ v = omega arith in
    let m : (v * 16 + digit b) % 16 ≡ digit b = omega arith in
    rw e (from_digits (suc n) (v * 16 + digit b) bs hs ∙ rw (q, m, glyph_digit b h) (append_snoc (hex_digits n v) b bs))

-- hex digits that are read and written again are the same
pub digits_value : (bs : List ℕ) → AllHex bs → hex_digits (length bs) (hex_value bs) ≡ bs
unfolding hex_digits
digits_value bs h = rw (zero-add (length bs)) at (from_digits 0 0 bs h)
