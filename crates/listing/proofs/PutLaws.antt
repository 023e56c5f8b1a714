-- Text that is put piece by piece is the text put at once: each piece goes behind the one before.
use Rattle.std.proofs.Common.{◌≡◌, ℕ, ◌+◌, ◌<◌, ◌≤◌, List, [], ◌∷◌, ◌++◌, length, take, set, sym, refl, ap, ◌∙◌, arith, length-append, length-take-le, le-leb}
use borrow.Author.Tests.{lt-leb}
use Rattle.digits.specs.Stores.{stored_within}
use Rattle.digits.proofs.StoreLaws.{stored_one, length_stored, then, within_fits, within_unfit}
use Rattle.listing.specs.Internal.{Puts, Lays}

-- two pieces: the first, then the second behind it
pub puts_then : {xs ys l l' l'' : List ℕ} {at m r : ℕ} → Puts xs l at m l' → Puts ys l' m r l'' → Puts (xs ++ ys) l at r l''
puts_then {xs} {ys} {l} {l'} {l''} {at} {m} {r} p q = record {
  leaves = then l l' l'' at (length xs) xs ys p.leaves refl (rw p.ends at q.leaves);
  ends = omega (arith, length-append xs ys, p.ends, q.ends);
}

-- one byte
pub puts_byte : (l : List ℕ) (at b : ℕ) → Puts (b ∷ []) l at (at + 1) (set l at b)
puts_byte l at b = record { leaves = stored_one l at b; ends = refl }

-- the buffer keeps its length
pub puts_length : {xs l l' : List ℕ} {at r : ℕ} → Puts xs l at r l' → length l' ≡ length l
puts_length {xs} {l} {l'} {at} {r} p = ap length p.leaves ∙ length_stored l at xs

-- text that fits is stored
pub puts_within : {xs l l' : List ℕ} {at : ℕ} → l' ≡ stored_within l at xs → at + length xs ≤ length l → Puts xs l at (at + length xs) l'
puts_within {xs} {l} {l'} {at} e h = record { leaves = e ∙ within_fits l at xs h; ends = refl }

-- so are the first n bytes of a block
pub puts_taken : (block l l' : List ℕ) (at n : ℕ) → l' ≡ stored_within l at (take n block) → n ≤ length block → at + n ≤ length l
    → Puts (take n block) l at (at + n) l'
puts_taken block l l' at n e h k =
    let s : length (take n block) ≡ n = length-take-le n block h in
    record { leaves = e ∙ within_fits l at (take n block) (omega arith); ends = ap (λ (m : ℕ). at + m) (sym s) }

-- -- Text that is put only where it fits

pub lays_puts : {text out after : List ℕ} {at end : ℕ} → Lays text out at end after → at + length text ≤ length out
    → Puts text out at end after
lays_puts {text} {out} {after} {at} {end} l h = record {
  leaves = l.leaves ∙ within_fits out at text h;
  ends = l.ends ∙ rw (le-leb (at + length text) (length out) h);
}

pub lays_fit : {text out after : List ℕ} {at end : ℕ} → Puts text out at end after → at + length text ≤ length out
    → Lays text out at end after
lays_fit {text} {out} {after} {at} {end} p h = record {
  leaves = p.leaves ∙ sym (within_fits out at text h);
  ends = p.ends ∙ rw (le-leb (at + length text) (length out) h);
}

pub lays_unfit : (text out : List ℕ) (at : ℕ) → length out < at + length text → Lays text out at at out
lays_unfit text out at h = record {
  leaves = sym (within_unfit out at text h);
  ends = rw (lt-leb (at + length text) (length out) h);
}
