-- Stores into a lent buffer, one piece behind the other, and the three answers of a writer. The engine is `sets_append`: storing two pieces
-- is storing the first, then the second behind it.
use mathlib.Core.Path.{◌≡◌, refl, sym, subst, ap, ◌∙◌}
use mathlib.Core.Bool.{true}
use mathlib.Core.List.{List, [], ◌∷◌, ◌++◌}
use Prim.Native.Nat.{ℕ, suc, ◌+◌, ◌/◌, ◌%◌, ◌<◌, ◌≤◌}
use native.Mathlib.Nat.{add-zero, zero-add}
use native.Mathlib.Numerals.{add-one, add-two, add-three}
use native.Mathlib.Decide.{dec_le, ℕ_discrete}
use native.Mathlib.Omega.{arith}
use borrow.Author.Tests.{le-leb, lt-leb, eq-eqb, ne_eqb}
use lib.Dec.{leb}
use lib.ListN.{length, take, drop, set}
use lib.Seq.{sets, sets-eq, length-sets, set_comm, take_at}
use Rattle.digits.specs.LittleEndian.{to_little}
use Rattle.digits.specs.Stores.{stored, stored_within, word_stored, writer_answer, Writes}
use Rattle.digits.specs.declared.Written.{Written}
use Rattle.digits.proofs.Choices.{cond_apply, cond_same}

-- -- Pieces one behind the other

-- two pieces: the first, then the second behind it
pub sets_append : (l : List ℕ) (at : ℕ) (xs ys : List ℕ) → sets l at (xs ++ ys) ≡ sets (sets l at xs) (at + length xs) ys
sets_append l at [] ys = rw (add-zero at)
sets_append l at (x ∷ xs) ys =
    let e : at + suc (length xs) ≡ suc at + length xs = omega arith in
    rw e (sets_append (set l at x) (suc at) xs ys)

-- a store behind a piece may come before it
pub set_behind : (l : List ℕ) (at : ℕ) (xs : List ℕ) (j b : ℕ) → at + length xs ≤ j → set (sets l at xs) j b ≡ sets (set l j b) at xs
set_behind l at [] j b h = refl
set_behind l at (x ∷ xs) j b h =
    set_behind (set l at x) (suc at) xs j b (omega arith) ∙ ap (λ (k : List ℕ). sets k (suc at) xs) (set_comm l at j x b (λ e. omega arith))

-- -- The same of `stored`

-- no bytes change nothing
pub stored_nil : (l : List ℕ) (at : ℕ) → stored l at [] ≡ l
unfolding stored
stored_nil l at = refl

-- one byte is one store
pub stored_one : (l : List ℕ) (at b : ℕ) → set l at b ≡ stored l at (b ∷ [])
unfolding stored
stored_one l at b = refl

-- two pieces: the first, then the second behind it
pub stored_append : (l : List ℕ) (at : ℕ) (xs ys : List ℕ) → stored l at (xs ++ ys) ≡ stored (stored l at xs) (at + length xs) ys
unfolding stored
stored_append l at xs ys = sets_append l at xs ys

-- a piece stored, then what follows it, is both stored at once: the step of every writer
pub then : (l l' r : List ℕ) (at n : ℕ) (xs ys : List ℕ) → l' ≡ stored l at xs → length xs ≡ n → r ≡ stored l' (at + n) ys
    → r ≡ stored l at (xs ++ ys)
then l l' r at n xs ys p e q = q ∙ ap (λ (k : List ℕ). stored k (at + n) ys) p ∙ rw (← e) (sym (stored_append l at xs ys))

-- a store keeps the length
pub length_stored : (l : List ℕ) (at : ℕ) (bs : List ℕ) → length (stored l at bs) ≡ length l
unfolding stored
length_stored l at bs = length-sets l at bs

-- bytes that fit replace those at their offsets, and all others stay
pub stored_parts : (l : List ℕ) (at : ℕ) (bs : List ℕ) → at + length bs ≤ length l
    → stored l at bs ≡ take at l ++ bs ++ drop (at + length bs) l
unfolding stored
stored_parts l at bs h = sets-eq bs l at h

-- bytes stored at the start: they come first, and all behind them stay
pub stored_start : (l bs : List ℕ) → length bs ≤ length l → stored l 0 bs ≡ bs ++ drop (length bs) l
stored_start l bs h = rw (zero-add (length bs)) at (stored_parts l 0 bs (omega arith))

-- -- Stores that fit or change nothing

-- bytes that fit are stored
pub within_fits : (l : List ℕ) (at : ℕ) (bs : List ℕ) → at + length bs ≤ length l → stored_within l at bs ≡ stored l at bs
unfolding stored_within
within_fits l at bs h = rw (le-leb (at + length bs) (length l) h)

-- bytes that do not fit change nothing
pub within_unfit : (l : List ℕ) (at : ℕ) (bs : List ℕ) → length l < at + length bs → stored_within l at bs ≡ l
unfolding stored_within
within_unfit l at bs h = rw (lt-leb (at + length bs) (length l) h)

-- either way the length stays
pub length_within : (l : List ℕ) (at : ℕ) (bs : List ℕ) → length (stored_within l at bs) ≡ length l
unfolding stored_within
length_within l at bs =
    cond_apply length (leb (at + length bs) (length l)) (stored l at bs) l
    ∙ rw (length_stored l at bs) (cond_same (leb (at + length bs) (length l)) (length l))

-- a piece that fits, then what follows it, is both stored at once: the step of every writer with room for m bytes
pub then_within : (l l' r : List ℕ) (m at n : ℕ) (xs ys : List ℕ) → m ≤ length l → at + n ≤ m → length xs ≡ n → l' ≡ stored_within l at xs
    → (m ≤ length l' → r ≡ stored l' (at + n) ys) → r ≡ stored l at (xs ++ ys)
then_within l l' r m at n xs ys room fits size p rest =
    let same : length l' ≡ length l = ap length p ∙ length_within l at xs in
    then l l' r at n xs ys (p ∙ within_fits l at xs (omega arith)) size (rest (omega arith))

-- the last piece
pub last_within : (l r : List ℕ) (m at : ℕ) (xs : List ℕ) → m ≤ length l → at + length xs ≤ m → r ≡ stored_within l at xs
    → r ≡ stored l at xs
last_within l r m at xs room fits p = p ∙ within_fits l at xs (omega arith)

-- -- 32-bit numbers

-- a number that fits is its four bytes
pub word_fits : (l : List ℕ) (at v : ℕ) → at + 4 ≤ length l → word_stored l at v ≡ stored l at (to_little 4 v)
unfolding word_stored to_little
word_fits l at v h = within_fits l at (to_little 4 v) h

-- a number that does not fit changes nothing
pub word_unfit : (l : List ℕ) (at v : ℕ) → length l < at + 4 → word_stored l at v ≡ l
unfolding word_stored to_little
word_unfit l at v h = within_unfit l at (to_little 4 v) h

-- either way the length stays
pub length_word_stored : (l : List ℕ) (at v : ℕ) → length (word_stored l at v) ≡ length l
unfolding word_stored
length_word_stored l at v = length_within l at (to_little 4 v)

-- four stores in a row are the number
pub four_stores : (l : List ℕ) (at v : ℕ) → at + 4 ≤ length l
    → set (set (set (set l at (v % 256)) (at + 1) (v / 256 % 256)) (at + 2) (v / 256 / 256 % 256)) (at + 3) (v / 256 / 256 / 256 % 256)
    ≡ word_stored l at v
unfolding stored to_little
four_stores l at v h = rw (word_fits l at v h, add-one, add-two, add-three)

-- -- The three answers of a writer

-- refused values: the number, nothing written
pub unfit : (refusal : ℕ) (bytes out : List ℕ) → (refusal ≡ 0 → ⊥) → Writes refusal bytes out (record { refusal = refusal; size = 0 }) out
unfit refusal bytes out h = record { answers = rw (ne_eqb refusal 0 h); leaves = rw (ne_eqb refusal 0 h) }

-- the output too short: 51, nothing written
pub short : (refusal : ℕ) (bytes out : List ℕ) → refusal ≡ 0 → length out < length bytes
    → Writes refusal bytes out (record { refusal = 51; size = 0 }) out
short refusal bytes out h k =
    record {
      answers = rw (eq-eqb refusal 0 h, lt-leb (length bytes) (length out) k);
      leaves = rw (eq-eqb refusal 0 h, lt-leb (length bytes) (length out) k);
    }

-- all written: the byte count, and exactly these bytes changed
pub done : (refusal : ℕ) (bytes out after : List ℕ) (n : ℕ) → refusal ≡ 0 → length bytes ≡ n → n ≤ length out → after ≡ stored out 0 bytes
    → Writes refusal bytes out (record { refusal = 0; size = n }) after
done refusal bytes out after n h e k s =
    record {
      answers = rw (eq-eqb refusal 0 h, le-leb (length bytes) (length out) (omega arith), e);
      leaves = s ∙ rw (eq-eqb refusal 0 h, le-leb (length bytes) (length out) (omega arith));
    }

-- -- What an answer says

-- a writer that does not refuse: its values were fine, the bytes fitted, and they come first at exit while all behind them stay
pub record Succeeded (refusal : ℕ) (bytes out : List ℕ) (r : Written) (after : List ℕ) : Type 0 where
  pub fine : refusal ≡ 0
  pub fits : length bytes ≤ length out
  pub size : r.size ≡ length bytes
  pub buffer : after ≡ bytes ++ drop (length bytes) out

-- the same from the promise
pub succeeded : (refusal : ℕ) (bytes out : List ℕ) (r : Written) (after : List ℕ) → Writes refusal bytes out r after → r.refusal ≡ 0
    → Succeeded refusal bytes out r after
succeeded refusal bytes out r after w z = go (ℕ_discrete refusal 0) (dec_le (length bytes) (length out))
  where
    number : r.refusal ≡ (writer_answer refusal bytes out).refusal
    number = ap (λ (a : Written). a.refusal) w.answers

    go : Dec (refusal ≡ 0) → Dec (length bytes ≤ length out) → Succeeded refusal bytes out r after
    go (yes e) (yes l) =
        record {
          fine = e;
          fits = l;
          size = ap (λ (a : Written). a.size) w.answers ∙ rw (eq-eqb refusal 0 e, le-leb (length bytes) (length out) l);
          buffer = w.leaves ∙ rw (eq-eqb refusal 0 e, le-leb (length bytes) (length out) l) (stored_start out bytes l);
        }
    go (yes e) (no l) =
        let n : r.refusal ≡ 51 = number ∙ rw (eq-eqb refusal 0 e, lt-leb (length bytes) (length out) (omega arith)) in
        absurd (omega arith)
    go (no e) l =
        let n : r.refusal ≡ refusal = number ∙ rw (ne_eqb refusal 0 e) in
        absurd (e (sym n ∙ z))

-- a writer that refuses changes nothing and counts no byte
pub refused : (refusal : ℕ) (bytes out : List ℕ) (r : Written) (after : List ℕ) → Writes refusal bytes out r after → (r.refusal ≡ 0 → ⊥)
    → (after ≡ out) × (r.size ≡ 0)
refused refusal bytes out r after w z = go (ℕ_discrete refusal 0) (dec_le (length bytes) (length out))
  where
    number : r.refusal ≡ (writer_answer refusal bytes out).refusal
    number = ap (λ (a : Written). a.refusal) w.answers

    go : Dec (refusal ≡ 0) → Dec (length bytes ≤ length out) → (after ≡ out) × (r.size ≡ 0)
    go (yes e) (yes l) = absurd (z (number ∙ rw (eq-eqb refusal 0 e, le-leb (length bytes) (length out) l)))
    go (yes e) (no l) = (
      w.leaves ∙ rw (eq-eqb refusal 0 e, lt-leb (length bytes) (length out) (omega arith)),
      ap (λ (a : Written). a.size) w.answers ∙ rw (eq-eqb refusal 0 e, lt-leb (length bytes) (length out) (omega arith)),
    )
    go (no e) l = (w.leaves ∙ rw (ne_eqb refusal 0 e), ap (λ (a : Written). a.size) w.answers ∙ rw (ne_eqb refusal 0 e))

-- -- Round trips through the lent buffer

-- whatever holds of the bytes of a writer's values holds of what it left at the buffer's start
pub left_holds : (P : List ℕ → Type 0) (refusal : ℕ) (bytes out : List ℕ) (r : Written) (after : List ℕ) → (refusal ≡ 0 → P bytes)
    → Writes refusal bytes out r after → r.refusal ≡ 0 → P (take r.size after)
left_holds P refusal bytes out r after holds w z =
    let s = succeeded refusal bytes out r after w z in
    let e : take r.size after ≡ bytes = rw s.buffer (take_at bytes (drop (length bytes) out) r.size (sym s.size)) in
    subst P (sym e) (holds s.fine)

-- values that are not refused, into a buffer with room: their bytes come first at exit, and all behind them stay
pub left_again : (refusal : ℕ) (bytes frame out : List ℕ) (r : Written) (after : List ℕ) → refusal ≡ 0 → bytes ≡ frame
    → length frame ≤ length out
    → Writes refusal bytes out r after → (r.refusal ≡ 0) × (after ≡ frame ++ drop (length frame) out)
left_again refusal bytes frame out r after fine same room w =
    let v : Writes 0 frame out r after = rw (fine, same) at w in
    let l : leb (length frame) (length out) ≡ true = le-leb (length frame) (length out) room in
    let z : r.refusal ≡ 0 = ap (λ (a : Written). a.refusal) v.answers ∙ rw l in
    (z, (succeeded 0 frame out r after v z).buffer)
