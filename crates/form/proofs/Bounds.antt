-- How many bytes a form takes at most, and what that says of bytes that wait: they are fewer.
use mathlib.Core.Bool.{Bool, true, false, cond}
use mathlib.Core.Path.{◌≡◌, refl}
use mathlib.Core.List.{List, [], ◌∷◌}
use Prim.Native.Nat.{ℕ, zero, suc, ◌+◌, ◌-◌, ◌*◌, ◌<◌, ◌≤◌}
use native.Mathlib.Omega.{arith}
use lib.ListN.{length}
use Rattle.form.specs.declared.Judgement.{Judgement}
use Rattle.form.specs.declared.Judgement.TheVariants.{Bad, Waiting}
use Rattle.form.specs.Form.{Form, whole, byte, word, ◌>>=◌, judge}
use Rattle.form.specs.Pieces.{four, marker, free, frees}
use Rattle.form.proofs.Theorems.{not_both, bad_waits}

-- the form takes at most so many bytes, whatever passes
unfoldable pub Bounded : Form → ℕ → Type 0
Bounded (whole v) n = Unit {0}
Bounded (byte r t f) n = (1 ≤ n) × ((b : ℕ) → t b ≡ true → Bounded (f b) (n - 1))
Bounded (word r t f) n = (4 ≤ n) × ((v : ℕ) → t v ≡ true → Bounded (f v) (n - 4))

-- a node waits behind a field that passed
passed_waits : (t : Bool) (j : Judgement) (r : ℕ) → cond t j (Bad r) ≡ Waiting → (t ≡ true) × (j ≡ Waiting)
passed_waits true j r e = (refl, e)
passed_waits false j r e = bad_waits refl e

-- bytes that wait are fewer than the form takes at most
pub waits_short : (p : Form) (n at : ℕ) (bs : List ℕ) → Bounded p n → judge p at bs ≡ Waiting → length bs < n
unfolding Bounded judge
waits_short (whole v) n at bs h e = not_both e refl
waits_short (byte r t f) n at [] h e = let l = h.0 in omega arith
waits_short (byte r t f) n at (b ∷ bs) h e =
    let w = passed_waits (t b) _ r e in
    let l = h.0 in
    let i = waits_short (f b) (n - 1) (at + 1) bs (h.1 b w.0) w.1 in
    omega arith
waits_short (word r t f) n at [] h e = let l = h.0 in omega arith
waits_short (word r t f) n at (a ∷ []) h e = let l = h.0 in omega arith
waits_short (word r t f) n at (a ∷ b ∷ []) h e = let l = h.0 in omega arith
waits_short (word r t f) n at (a ∷ b ∷ c ∷ []) h e = let l = h.0 in omega arith
waits_short (word r t f) n at (a ∷ b ∷ c ∷ d ∷ bs) h e =
    let w = passed_waits (t _) _ (r _) e in
    let l = h.0 in
    let i = waits_short (f _) (n - 4) (at + 4) bs (h.1 _ w.0) w.1 in
    omega arith

-- -- Larger bounds, and pieces one behind the other

pub bounded_more : (p : Form) (n m : ℕ) → n ≤ m → Bounded p n → Bounded p m
unfolding Bounded
bounded_more (whole v) n m l h = tt
bounded_more (byte r t f) n m l h = let a = h.0 in
    (omega arith, λ b e. bounded_more (f b) (n - 1) (m - 1) (omega arith) (h.1 b e))
bounded_more (word r t f) n m l h = let a = h.0 in
    (omega arith, λ v e. bounded_more (f v) (n - 4) (m - 4) (omega arith) (h.1 v e))

-- a piece, and then at most m bytes whatever its value
pub bounded_then : (p : Form) (h : ℕ → Form) (n m : ℕ) → Bounded p n → ((v : ℕ) → Bounded (h v) m) → Bounded (p >>= h) (n + m)
unfolding Bounded ◌>>=◌
bounded_then (whole v) h n m b c = bounded_more (h v) m (n + m) (omega arith) (c v)
bounded_then (byte r t f) h n m b c =
    let l = b.0 in
    let q : n + m - 1 ≡ n - 1 + m = omega arith in
    (omega arith, λ v e. rw q (bounded_then (f v) h (n - 1) m (b.1 v e) c))
bounded_then (word r t f) h n m b c =
    let l = b.0 in
    let q : n + m - 4 ≡ n - 4 + m = omega arith in
    (omega arith, λ v e. rw q (bounded_then (f v) h (n - 4) m (b.1 v e) c))

-- a four-byte field, and then what its value says
pub bounded_four : (r : ℕ → ℕ) (t : ℕ → Bool) (h : ℕ → Form) (n : ℕ) → ((v : ℕ) → t v ≡ true → Bounded (h v) n)
    → Bounded (four r t >>= h) (4 + n)
unfolding Bounded ◌>>=◌
bounded_four r t h n b = let q : 4 + n - 4 ≡ n = omega arith in (omega arith, λ v e. rw q (b v e))

-- -- The pieces

pub bounded_whole : (v n : ℕ) → Bounded (whole v) n
unfolding Bounded
bounded_whole v n = tt

pub bounded_marker : (r : ℕ) (ms : List ℕ) → Bounded (marker r ms) (length ms)
unfolding Bounded marker
bounded_marker r [] = tt
bounded_marker r (m ∷ ms) = let q : suc (length ms) - 1 ≡ length ms = omega arith in (omega arith, λ _ e. rw q (bounded_marker r ms))

pub bounded_free : (n : ℕ) → Bounded (free n) n
unfolding Bounded free
bounded_free zero = tt
bounded_free (suc n) = let q : suc n - 1 ≡ n = omega arith in (omega arith, λ _ e. rw q (bounded_free n))

pub bounded_frees : (n : ℕ) → Bounded (frees n) (4 * n)
unfolding Bounded frees
bounded_frees zero = tt
bounded_frees (suc n) = let q : 4 * suc n - 4 ≡ 4 * n = omega arith in (omega arith, λ _ e. rw q (bounded_frees n))
