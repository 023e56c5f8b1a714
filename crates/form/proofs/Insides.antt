-- Where bytes end inside a four-byte field, piece by piece: in the first piece, or behind it in what follows.
use mathlib.Core.Bool.{Bool, true, false, cond}
use mathlib.Core.Path.{◌≡◌, refl, sym, ◌∙◌}
use mathlib.Core.List.{List, [], ◌∷◌}
use mathlib.Core.Logic.{◌⊎◌, inl, inr}
use Prim.Native.Nat.{ℕ, zero, suc, ◌+◌, ◌*◌, ◌<◌, ◌≤◌}
use native.Mathlib.Omega.{arith}
use native.Mathlib.Decide.{dec_lt, dec_le}
use lib.ListN.{length, drop, get_or, length-drop, drop_of_length-le}
use Rattle.digits.proofs.Lists.{drop_one, drop_four}
use Rattle.digits.specs.LittleEndian.{little_at}
use Rattle.form.specs.declared.Judgement.TheVariants.{Whole, Bad}
use Rattle.form.specs.Form.{Form, whole, byte, word, ◌>>=◌, judge, judge_at, Inside}
use Rattle.form.specs.Pieces.{any, always, four, marker, free, frees, Cut}
use Rattle.form.proofs.PieceLaws.{byte_step, byte_ends, word_step, word_ends}
use Rattle.form.proofs.Theorems.{not_both}

-- the bytes from an offset on end inside a field of the piece
abbrev pub InsideAt : Form → ℕ → List ℕ → Type 0
InsideAt p at bs = Inside p (drop at bs)

-- -- One node

byte_in : (r : ℕ) (t : ℕ → Bool) (f : ℕ → Form) (at : ℕ) (bs : List ℕ) → at < length bs → InsideAt (byte r t f) at bs
    → (t (get_or bs at 0) ≡ true) × InsideAt (f (get_or bs at 0)) (at + 1) bs
unfolding Inside
byte_in r t f at bs h i = rw (drop_one bs at h) at i

in_byte : (r : ℕ) (t : ℕ → Bool) (f : ℕ → Form) (at : ℕ) (bs : List ℕ) → at < length bs
    → (t (get_or bs at 0) ≡ true) × InsideAt (f (get_or bs at 0)) (at + 1) bs → InsideAt (byte r t f) at bs
unfolding Inside
in_byte r t f at bs h i = rw (drop_one bs at h) i

byte_out : (r : ℕ) (t : ℕ → Bool) (f : ℕ → Form) (at : ℕ) (bs : List ℕ) → length bs ≤ at → InsideAt (byte r t f) at bs → ⊥
unfolding Inside
byte_out r t f at bs h i = rw (drop_of_length-le bs {i = at} h) at i

word_in : (r : ℕ → ℕ) (t : ℕ → Bool) (f : ℕ → Form) (at : ℕ) (bs : List ℕ) → at + 4 ≤ length bs → InsideAt (word r t f) at bs
    → (t (little_at 4 at bs) ≡ true) × InsideAt (f (little_at 4 at bs)) (at + 4) bs
unfolding Inside
word_in r t f at bs h i = rw (drop_four bs at h) (rw (drop_four bs at h) at i)

in_word : (r : ℕ → ℕ) (t : ℕ → Bool) (f : ℕ → Form) (at : ℕ) (bs : List ℕ) → at + 4 ≤ length bs
    → (t (little_at 4 at bs) ≡ true) × InsideAt (f (little_at 4 at bs)) (at + 4) bs → InsideAt (word r t f) at bs
unfolding Inside
in_word r t f at bs h i = rw (drop_four bs at h) (rw (drop_four bs at h) at i)

short_in : (r : ℕ → ℕ) (t : ℕ → Bool) (f : ℕ → Form) (xs : List ℕ) → 0 < length xs → length xs < 4 → Inside (word r t f) xs
unfolding Inside
short_in r t f [] h l = absurd (omega arith)
short_in r t f (a ∷ []) h l = tt
short_in r t f (a ∷ b ∷ []) h l = tt
short_in r t f (a ∷ b ∷ c ∷ []) h l = tt
short_in r t f (a ∷ b ∷ c ∷ d ∷ xs) h l = absurd (omega arith)

in_short : (r : ℕ → ℕ) (t : ℕ → Bool) (f : ℕ → Form) (xs : List ℕ) → Inside (word r t f) xs → 0 < length xs
unfolding Inside
in_short r t f [] i = absurd i
in_short r t f (a ∷ xs) i = omega arith

-- bytes that end inside the field at the offset itself
pub in_cut : (r : ℕ → ℕ) (t : ℕ → Bool) (f : ℕ → Form) (at : ℕ) (bs : List ℕ) → Cut at bs → InsideAt (word r t f) at bs
in_cut r t f at bs c = short_in r t f (drop at bs) (simp length-drop (omega (arith, c.0))) (simp length-drop (omega (arith, c.1)))

cut_in : (r : ℕ → ℕ) (t : ℕ → Bool) (f : ℕ → Form) (at : ℕ) (bs : List ℕ) → length bs < at + 4 → InsideAt (word r t f) at bs → Cut at bs
cut_in r t f at bs h i = (omega (arith, simp length-drop at (in_short r t f (drop at bs) i)), h)

-- -- Two pieces

-- inside the first, or the first is whole and inside the second
pub seq_inside : (p : Form) (h : ℕ → Form) (at : ℕ) (bs : List ℕ) → InsideAt (p >>= h) at bs
    → InsideAt p at bs ⊎ ((u : ℕ) × (d : ℕ) × (judge_at p at bs ≡ Whole u d) × InsideAt (h u) d bs)
unfolding ◌>>=◌ judge
seq_inside (whole v) h at bs i = inr (v, at, refl, i)
seq_inside (byte r t f) h at bs i = go (dec_lt at (length bs)) (λ g. seq_inside (f (get_or bs at 0)) h (at + 1) bs g)
  where
    b : ℕ
    b = get_or bs at 0

    Next : Type 0
    Next = InsideAt (f (get_or bs at 0)) (at + 1) bs
        ⊎ ((u : ℕ) × (d : ℕ) × (judge_at (f (get_or bs at 0)) (at + 1) bs ≡ Whole u d) × InsideAt (h u) d bs)

    on : at < length bs → t (get_or bs at 0) ≡ true → Next
        → InsideAt (byte r t f) at bs ⊎ ((u : ℕ) × (d : ℕ) × (judge_at (byte r t f) at bs ≡ Whole u d) × InsideAt (h u) d bs)
    on l a (inl j) = inl (in_byte r t f at bs l (a, j))
    on l a (inr g) = inr (g.0, g.1, byte_step r t f at bs l ∙ rw a g.2, g.3)

    go : Dec (at < length bs) → (InsideAt (f (get_or bs at 0) >>= h) (at + 1) bs → Next)
        → InsideAt (byte r t f) at bs ⊎ ((u : ℕ) × (d : ℕ) × (judge_at (byte r t f) at bs ≡ Whole u d) × InsideAt (h u) d bs)
    go (yes l) s = let g = byte_in r t (λ b. f b >>= h) at bs l i in on l g.0 (s g.1)
    go (no n) s = absurd (byte_out r t (λ b. f b >>= h) at bs (omega arith) i)
seq_inside (word r t f) h at bs i = go (dec_le (at + 4) (length bs)) (λ g. seq_inside (f (little_at 4 at bs)) h (at + 4) bs g)
  where
    Next : Type 0
    Next = InsideAt (f (little_at 4 at bs)) (at + 4) bs
        ⊎ ((u : ℕ) × (d : ℕ) × (judge_at (f (little_at 4 at bs)) (at + 4) bs ≡ Whole u d) × InsideAt (h u) d bs)

    on : at + 4 ≤ length bs → t (little_at 4 at bs) ≡ true → Next
        → InsideAt (word r t f) at bs ⊎ ((u : ℕ) × (d : ℕ) × (judge_at (word r t f) at bs ≡ Whole u d) × InsideAt (h u) d bs)
    on l a (inl j) = inl (in_word r t f at bs l (a, j))
    on l a (inr g) = inr (g.0, g.1, word_step r t f at bs l ∙ rw a g.2, g.3)

    go : Dec (at + 4 ≤ length bs) → (InsideAt (f (little_at 4 at bs) >>= h) (at + 4) bs → Next)
        → InsideAt (word r t f) at bs ⊎ ((u : ℕ) × (d : ℕ) × (judge_at (word r t f) at bs ≡ Whole u d) × InsideAt (h u) d bs)
    go (yes l) s = let g = word_in r t (λ v. f v >>= h) at bs l i in on l g.0 (s g.1)
    go (no n) s = inl (in_cut r t f at bs (cut_in r t (λ v. f v >>= h) at bs (omega arith) i))

-- inside the first piece
pub inside_first : (p : Form) (h : ℕ → Form) (at : ℕ) (bs : List ℕ) → InsideAt p at bs → InsideAt (p >>= h) at bs
unfolding ◌>>=◌ Inside
inside_first (whole v) h at bs i = absurd i
inside_first (byte r t f) h at bs i = go (dec_lt at (length bs)) (inside_first (f (get_or bs at 0)) h (at + 1) bs)
  where
    go : Dec (at < length bs) → (InsideAt (f (get_or bs at 0)) (at + 1) bs → InsideAt (f (get_or bs at 0) >>= h) (at + 1) bs)
        → InsideAt (byte r t (λ b. f b >>= h)) at bs
    go (yes l) s = let g = byte_in r t f at bs l i in in_byte r t (λ b. f b >>= h) at bs l (g.0, s g.1)
    go (no n) s = absurd (byte_out r t f at bs (omega arith) i)
inside_first (word r t f) h at bs i = go (dec_le (at + 4) (length bs)) (inside_first (f (little_at 4 at bs)) h (at + 4) bs)
  where
    go : Dec (at + 4 ≤ length bs) → (InsideAt (f (little_at 4 at bs)) (at + 4) bs → InsideAt (f (little_at 4 at bs) >>= h) (at + 4) bs)
        → InsideAt (word r t (λ v. f v >>= h)) at bs
    go (yes l) s = let g = word_in r t f at bs l i in in_word r t (λ v. f v >>= h) at bs l (g.0, s g.1)
    go (no n) s = in_cut r t (λ v. f v >>= h) at bs (cut_in r t f at bs (omega arith) i)

-- inside what follows a whole piece
pub inside_then : (p : Form) (h : ℕ → Form) (at : ℕ) (bs : List ℕ) (u d : ℕ) → judge_at p at bs ≡ Whole u d → InsideAt (h u) d bs
    → InsideAt (p >>= h) at bs
unfolding ◌>>=◌ judge
inside_then (whole v) h at bs u d w i = let a : u ≡ v = cc in let b : d ≡ at = cc in rw (a, b) at i
inside_then (byte r t f) h at bs u d w i = go (dec_lt at (length bs)) (λ g. inside_then (f (get_or bs at 0)) h (at + 1) bs u d g i)
  where
    on : (x : Bool) → t (get_or bs at 0) ≡ x → cond x (judge_at (f (get_or bs at 0)) (at + 1) bs) (Bad r) ≡ Whole u d
        → (t (get_or bs at 0) ≡ true) × (judge_at (f (get_or bs at 0)) (at + 1) bs ≡ Whole u d)
    on true a j = (a, j)
    on false a j = let z : ◌≡◌ {A = ℕ} 0 1 = cc in absurd (omega arith)

    go : Dec (at < length bs) → (judge_at (f (get_or bs at 0)) (at + 1) bs ≡ Whole u d → InsideAt (f (get_or bs at 0) >>= h) (at + 1) bs)
        → InsideAt (byte r t (λ b. f b >>= h)) at bs
    go (yes l) s = let g = on (t (get_or bs at 0)) refl (sym (byte_step r t f at bs l) ∙ w) in
        in_byte r t (λ b. f b >>= h) at bs l (g.0, s g.1)
    go (no n) s = not_both (byte_ends r t f at bs (omega arith)) w
inside_then (word r t f) h at bs u d w i = go (dec_le (at + 4) (length bs)) (λ g. inside_then (f (little_at 4 at bs)) h (at + 4) bs u d g i)
  where
    on : (x : Bool) → t (little_at 4 at bs) ≡ x
        → cond x (judge_at (f (little_at 4 at bs)) (at + 4) bs) (Bad (r (little_at 4 at bs))) ≡ Whole u d
        → (t (little_at 4 at bs) ≡ true) × (judge_at (f (little_at 4 at bs)) (at + 4) bs ≡ Whole u d)
    on true a j = (a, j)
    on false a j = let z : ◌≡◌ {A = ℕ} 0 1 = cc in absurd (omega arith)

    go : Dec (at + 4 ≤ length bs) → (judge_at (f (little_at 4 at bs)) (at + 4) bs ≡ Whole u d
        → InsideAt (f (little_at 4 at bs) >>= h) (at + 4) bs) → InsideAt (word r t (λ v. f v >>= h)) at bs
    go (yes l) s = let g = on (t (little_at 4 at bs)) refl (sym (word_step r t f at bs l) ∙ w) in
        in_word r t (λ v. f v >>= h) at bs l (g.0, s g.1)
    go (no n) s = not_both (word_ends r t f at bs (omega arith)) w

-- -- The pieces

-- inside a field with a test: its own bytes are cut
pub four_inside : (r : ℕ → ℕ) (t : ℕ → Bool) (at : ℕ) (bs : List ℕ) → InsideAt (four r t) at bs → Cut at bs
unfolding Inside
four_inside r t at bs i = go (dec_le (at + 4) (length bs))
  where
    go : Dec (at + 4 ≤ length bs) → Cut at bs
    go (yes l) = absurd (word_in r t whole at bs l i).1
    go (no n) = cut_in r t whole at bs (omega arith) i

-- inside the first of two pieces, where that is a field
pub four_first : (r : ℕ → ℕ) (t : ℕ → Bool) (h : ℕ → Form) (at : ℕ) (bs : List ℕ) → Cut at bs → InsideAt (four r t >>= h) at bs
unfolding ◌>>=◌
four_first r t h at bs c = in_cut r t (λ v. whole v >>= h) at bs c

-- inside n free fields: the bytes of one of them are cut
pub frees_inside : (n at : ℕ) (bs : List ℕ) → InsideAt (frees n) at bs → (i : ℕ) × (i < n) × Cut (at + 4 * i) bs
unfolding Inside frees
frees_inside zero at bs i = absurd i
frees_inside (suc n) at bs i = go (dec_le (at + 4) (length bs)) (frees_inside n (at + 4) bs)
  where
    go : Dec (at + 4 ≤ length bs) → (InsideAt (frees n) (at + 4) bs → (i : ℕ) × (i < n) × Cut (at + 4 + 4 * i) bs)
        → (i : ℕ) × (i < suc n) × Cut (at + 4 * i) bs
    go (yes l) s = let g = s (word_in (always 0) any (λ _. frees n) at bs l i).1 in
        (suc g.0, omega (arith, g.1), (omega (arith, g.2.0), omega (arith, g.2.1)))
    go (no m) s = let c = cut_in (always 0) any (λ _. frees n) at bs (omega arith) i in
        (0, omega arith, (omega (arith, c.0), omega (arith, c.1)))

-- the bytes of one of n free fields are cut: inside them and all that they begin
pub frees_first : (n : ℕ) (h : ℕ → Form) (at : ℕ) (bs : List ℕ) (i : ℕ) → i < n → Cut (at + 4 * i) bs → InsideAt (frees n >>= h) at bs
unfolding frees ◌>>=◌
frees_first zero h at bs i l c = absurd (omega arith)
frees_first (suc n) h at bs zero l c = in_cut (always 0) any (λ _. frees n >>= h) at bs (omega (arith, c.0), omega (arith, c.1))
frees_first (suc n) h at bs (suc i) l c =
    in_word (always 0) any (λ _. frees n >>= h) at bs (omega (arith, c.0))
    (refl, frees_first n h (at + 4) bs i (omega arith) (omega (arith, c.0), omega (arith, c.1)))

free_out : (n : ℕ) (xs : List ℕ) → Inside (free n) xs → ⊥
unfolding Inside free
free_out zero xs i = i
free_out (suc n) [] i = i
free_out (suc n) (b ∷ xs) i = free_out n xs i.1

-- free bytes are no four-byte fields
pub free_outside : (n at : ℕ) (bs : List ℕ) → InsideAt (free n) at bs → ⊥
free_outside n at bs i = free_out n (drop at bs) i

marker_out : (r : ℕ) (ms xs : List ℕ) → Inside (marker r ms) xs → ⊥
unfolding Inside marker
marker_out r [] xs i = i
marker_out r (m ∷ ms) [] i = i
marker_out r (m ∷ ms) (b ∷ xs) i = marker_out r ms xs i.1

-- the given bytes are no four-byte fields
pub marker_outside : (r : ℕ) (ms : List ℕ) (at : ℕ) (bs : List ℕ) → InsideAt (marker r ms) at bs → ⊥
marker_outside r ms at bs i = marker_out r ms (drop at bs) i
