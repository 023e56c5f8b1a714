-- Little-endian numbers of any width: both directions, lengths and bounds. Each law is one induction on the bytes or the width, a
-- Horner step a turn.
use mathlib.Core.Path.{◌≡◌, refl, sym, ap, ◌∙◌}
use mathlib.Core.List.{List, [], ◌∷◌}
use Prim.Native.Nat.{ℕ, zero, suc, ◌+◌, ◌-◌, ◌*◌, ◌/◌, ◌%◌, ◌^◌, ◌<◌, ◌≤◌}
use native.Mathlib.Nat.{pow-succ', pow-le-pow_right, lt_of_lt_of_le}
use native.Mathlib.Omega.{arith}
use borrow.Author.Tests.{le-leb, lt-leb}
use lib.ListN.{length, take, drop, get_or, length-take, length-drop}
use lib.Seq.{take-take, drop-drop, length-take-le}
use Rattle.digits.specs.Bytes.{Below, Bytes}
use Rattle.digits.specs.LittleEndian.{from_little, to_little, little_at, word_at}
use Rattle.digits.proofs.Lists.{drop_take, below_take, below_drop, take_four}

-- -- Widths and bounds

-- n bytes are written for a number of n bytes
pub length_little : (n v : ℕ) → length (to_little n v) ≡ n
unfolding to_little
length_little zero v = refl
length_little (suc n) v = ap suc (length_little n (v / 256))

-- n bytes give a number below 256 ^ n
pub little_below : (bs : List ℕ) → Bytes bs → from_little bs < 256 ^ length bs
unfolding from_little Below
little_below [] h = omega arith
little_below (b ∷ bs) (h, hs) = rw (pow-succ' 256 (length bs)) (let r = little_below bs hs in omega arith)

-- the number in n bytes at an offset is below 256 ^ n
pub little_at_below : (n at : ℕ) (bs : List ℕ) → Bytes bs → little_at n at bs < 256 ^ n
little_at_below n at bs h =
    lt_of_lt_of_le (little_below (take n (drop at bs)) (below_take (2 ^ 8) n (drop at bs) (below_drop (2 ^ 8) at bs h)))
    (pow-le-pow_right {n = 256} (omega arith) {j = n} (simp length-take (omega arith)))

-- -- Both directions

-- a number below 256 ^ n, written in n bytes, is read back
pub from_to_little : (n v : ℕ) → v < 256 ^ n → from_little (to_little n v) ≡ v
unfolding from_little to_little
from_to_little zero v h = omega arith
from_to_little (suc n) v h =
    let k : v < 256 * 256 ^ n = rw (pow-succ' 256 n) at h in
    let r = from_to_little n (v / 256) (omega arith) in
    omega arith

-- bytes that are read and written again are the same
pub to_from_little : (bs : List ℕ) → Bytes bs → to_little (length bs) (from_little bs) ≡ bs
unfolding from_little to_little Below
to_from_little [] h = refl
to_from_little (b ∷ bs) (h, hs) =
    let m : (b + 256 * from_little bs) % 256 ≡ b = omega arith in
    let q : (b + 256 * from_little bs) / 256 ≡ from_little bs = omega arith in
    rw (m, q, to_from_little bs hs)

-- -- 32-bit numbers

-- the number at an offset that has four bytes
pub word_there : (bs : List ℕ) (at : ℕ) → at + 4 ≤ length bs → word_at bs at ≡ little_at 4 at bs
unfolding word_at
word_there bs at h = rw (le-leb (at + 4) (length bs) h)

-- the same, byte by byte
pub word_joined : (bs : List ℕ) (at : ℕ) → at + 4 ≤ length bs
    → word_at bs at ≡ from_little (get_or bs at 0 ∷ get_or bs (at + 1) 0 ∷ get_or bs (at + 2) 0 ∷ get_or bs (at + 3) 0 ∷ [])
word_joined bs at h = word_there bs at h ∙ ap from_little (take_four bs at h)

-- 0 where fewer than four bytes are there
pub word_missing : (bs : List ℕ) (at : ℕ) → length bs < at + 4 → word_at bs at ≡ 0
unfolding word_at
word_missing bs at h = rw (lt-leb (at + 4) (length bs) h)

-- the number at an offset of a part of the bytes
pub word_part : (bs : List ℕ) (from n at : ℕ) → from + n ≤ length bs → at + 4 ≤ n
    → word_at (take n (drop from bs)) at ≡ word_at bs (from + at)
word_part bs from n at h l =
    let d : length (drop from bs) ≡ length bs - from = length-drop from bs in
    let m : length (take n (drop from bs)) ≡ n = length-take-le n (drop from bs) (omega arith) in
    let e : at + (n - at) ≡ n = omega arith in
    let part : drop at (take n (drop from bs)) ≡ take (n - at) (drop (from + at) bs) = rw e at
    (drop_take (drop from bs) at (n - at) (omega arith) ∙ ap (take (n - at)) (drop-drop at from bs)) in
    word_there (take n (drop from bs)) at (omega arith)
    ∙ ap (λ (l : List ℕ). from_little (take 4 l)) part ∙ ap from_little (take-take 4 (n - at) (drop (from + at) bs) (omega arith))
    ∙ sym (word_there bs (from + at) (omega arith))
