-- What the private functions say of each other; no rule of the papers.
use Rattle.std.specs.Prelude.{◌≡◌, ℕ, ◌+◌, ◌-◌, ◌*◌, ◌/◌, ◌%◌, ◌^◌, ◌≤◌, cond, nat_le}
use Rattle.std.specs.Prelude.{ℤ, pos, Result, Ok, Err}
use Rattle.refusals.specs.declared.Refusal.{Refusal}
use Rattle.refusals.specs.declared.Refusal.TheVariants.{NotFinite, TooFar}

-- 39800000 are the bits of 2 ^ -12 m, 447A0000 those of 1000 m: the bits without the sign are `over` more than the first, and at most the
-- second
abbrev pub Inside : ℕ → ℕ → Type 0
Inside bits over = ((over + 0x39800000) % 2 ^ 31 ≡ bits % 2 ^ 31) × (over ≤ 0x447A0000 - 0x39800000)

-- a coordinate inside, in parts of which 2 ^ 32 are a millimetre
unfoldable pub parts : ℕ → ℕ → ℕ
parts bits over = 125 * (2 ^ 23 + bits % 2 ^ 23) * 2 ^ (over / 2 ^ 23)

-- what is not inside gives, by what its bits without the sign are over those of 2 ^ -12 m, modulo 2 ^ 31: 0 for what is below, 30 for
-- what is infinite or no number, else 31
abbrev pub outside : ℕ → Result ℤ Refusal
outside over =
    cond (nat_le (2 ^ 31 - 0x39800000) over) (Ok (pos 0)) (cond (nat_le (0x7F800000 - 0x39800000) over) (Err NotFinite) (Err TooFar))
