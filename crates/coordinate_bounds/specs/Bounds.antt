-- The coordinates within a distance, and the bound on a float's bits that tells them (paper 02, (vi)).
use Rattle.std.specs.Prelude.{Bool, ◌&&◌, cond, ◌≡◌, ℕ, ◌+◌, ◌*◌, ◌/◌, ◌%◌, ◌^◌, ◌<◌, eqb, leb, ltb, nat_abs, Result, Ok}
use Rattle.refusals.specs.declared.Refusal.{Refusal}
use Rattle.refusals.specs.Numbers.{refusal_number}
use Rattle.units.specs.declared.Quantity.{Quantity}
use Rattle.units.specs.Units.{Edition, is_edition, millimetres}

-- a coordinate is within d millimetres: it is not refused, and at most d in magnitude (paper 02, (vi))
abbrev pub is_within : ℕ → Quantity → Bool
is_within d q = eqb q.refusal 0 && leb (nat_abs q.value) d

-- the greatest distance that is asked for, in millimetres (paper 02, (vi))
abbrev pub max_distance : ℕ
max_distance = 1000000

-- 32 for an edition other than 1 and 2, then 33 for a distance over the greatest (paper 02, (vi))
abbrev pub bound_refusal : ℕ → ℕ → ℕ
bound_refusal edition d = cond (is_edition edition) (cond (ltb max_distance d) 33 0) 32

-- a float's bits turned left by one, so that the sign is last: they rise with the magnitude, whatever the sign
unfoldable pub sign_last : ℕ → ℕ
sign_last bits = 2 * (bits % 2 ^ 31) + bits / 2 ^ 31 % 2

-- exactly the floats whose bits, with the sign last, are at most the limit are within d millimetres by the edition
abbrev pub Tells : ℕ → ℕ → ℕ → Type 0
Tells edition d limit = (bits : ℕ) → is_within d (millimetres edition bits) ≡ leb (sign_last bits) limit

-- the limit of a distance, or a refusal
pub record Bounds (edition d : ℕ) (r : Result ℕ Refusal) : Type 0 where
  pub refuses : refusal_number r ≡ bound_refusal edition d
  pub tells : (limit : ℕ) → r ≡ Ok limit → Tells edition d limit

-- -- The code's own contracts

-- the greatest of the bits without a sign whose float is within d millimetres by the edition
pub record Greatest (edition d bits : ℕ) : Type 0 where
  pub small : bits < 2 ^ 31
  pub exactly : Edition edition → (b : ℕ) → is_within d (millimetres edition b) ≡ leb (b % 2 ^ 31) bits
