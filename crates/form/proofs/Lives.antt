-- That a form is live, or plain, piece by piece: each law is for a piece and what follows it.
use mathlib.Core.Bool.{Bool, true}
use mathlib.Core.Path.{◌≡◌, refl}
use mathlib.Core.List.{List, [], ◌∷◌}
use Prim.Native.Nat.{ℕ, zero, suc, ◌^◌, ◌<◌}
use native.Mathlib.Omega.{arith}
use borrow.Author.Tests.{eq-eqb}
use Rattle.digits.specs.Bytes.{Below, Bytes}
use Rattle.form.specs.Form.{Form, whole, byte, word, ◌>>=◌, Live, Plain, Inside}
use Rattle.form.specs.Pieces.{four, marker, free, frees}

-- -- Live

-- a four-byte field with a test that some number passes
pub live_four : (r : ℕ → ℕ) (t : ℕ → Bool) (h : ℕ → Form) (v : ℕ) → v < 2 ^ 32 → t v ≡ true
    → ((v : ℕ) → v < 2 ^ 32 → t v ≡ true → Live (h v)) → Live (four r t >>= h)
unfolding Live ◌>>=◌
live_four r t h v s a l = ((v, s, a), l)

-- free bytes
pub live_free : (n : ℕ) (h : ℕ → Form) → Live (h 0) → Live (free n >>= h)
unfolding Live ◌>>=◌ free
live_free zero h l = l
live_free (suc n) h l = ((0, omega arith, refl), λ b s a. live_free n h l)

-- free four-byte fields
pub live_frees : (n : ℕ) (h : ℕ → Form) → Live (h 0) → Live (frees n >>= h)
unfolding Live ◌>>=◌ frees
live_frees zero h l = l
live_frees (suc n) h l = ((0, omega arith, refl), λ v s a. live_frees n h l)

-- the given bytes
pub live_marker : (r : ℕ) (ms : List ℕ) (h : ℕ → Form) → Bytes ms → Live (h 0) → Live (marker r ms >>= h)
unfolding Live ◌>>=◌ marker Below
live_marker r [] h s l = l
live_marker r (m ∷ ms) h s l = ((m, s.0, eq-eqb m m refl), λ b i a. live_marker r ms h s.1 l)

-- a live piece, and then a live one
pub live_then : (p : Form) (h : ℕ → Form) → Live p → ((v : ℕ) → Live (h v)) → Live (p >>= h)
unfolding Live ◌>>=◌
live_then (whole v) h l n = n v
live_then (byte r t f) h l n = (l.0, λ b s a. live_then (f b) h (l.1 b s a) n)
live_then (word r t f) h l n = (l.0, λ v s a. live_then (f v) h (l.1 v s a) n)

-- -- Plain

-- a plain piece, and then a plain one
pub plain_then : (p : Form) (h : ℕ → Form) → Plain p → ((v : ℕ) → Plain (h v)) → Plain (p >>= h)
unfolding Plain ◌>>=◌
plain_then (whole v) h l n = n v
plain_then (byte r t f) h l n = λ b. plain_then (f b) h (l b) n
plain_then (word r t f) h l n = absurd l

-- no bytes end inside a four-byte field of a form that has none
pub plain_outside : (p : Form) (xs : List ℕ) → Plain p → Inside p xs → ⊥
unfolding Plain Inside
plain_outside (whole v) xs l i = i
plain_outside (byte r t f) [] l i = i
plain_outside (byte r t f) (b ∷ xs) l i = plain_outside (f b) xs (l b) i.1
plain_outside (word r t f) xs l i = absurd l
