-- The 32 bits of a float (IEEE 754, binary32): sign, 8 bits of exponent, 23 bits of fraction.
use Rattle.std.specs.Prelude.{ℕ, ◌+◌, ◌*◌, ◌/◌, ◌%◌, ◌^◌, Bool, cond, ◌==◌}

-- bit 31: the sign
abbrev pub negative : ℕ → Bool
negative bits = bits / 2 ^ 31 == 1

-- bits 30 to 23: the biased exponent
abbrev pub exponent : ℕ → ℕ
exponent bits = bits / 2 ^ 23 % 2 ^ 8

-- bits 22 to 0: the fraction
abbrev pub fraction : ℕ → ℕ
fraction bits = bits % 2 ^ 23

-- infinite or no number: every bit of the exponent is set
abbrev pub not_finite : ℕ → Bool
not_finite bits = exponent bits == 255

-- the significand as a whole number; a subnormal one (exponent 0) has no leading one
unfoldable pub significand : ℕ → ℕ
significand bits = cond (exponent bits == 0) (fraction bits) (2 ^ 23 + fraction bits)

-- the power of two beside it: the magnitude is significand * 2 ^ scale / 2 ^ 150 exactly
unfoldable pub scale : ℕ → ℕ
scale bits = cond (exponent bits == 0) 1 (exponent bits)

-- 2 ^ 150 times the exact magnitude
abbrev pub magnitude : ℕ → ℕ
magnitude bits = significand bits * 2 ^ scale bits
