-- The nearest whole number to a fraction, and the rule at exact halves (paper 01, "Numbers"; paper 02, (iv)).
-- A value is given as its sign and the magnitude n / d, with d not 0; all comparisons are over whole numbers.
use Rattle.std.specs.Prelude.{◌≡◌, ℕ, ◌+◌, ◌-◌, ◌*◌, ◌/◌, ◌%◌, ◌≤◌, Bool, true, false, ℤ, pos, ◌-ℤ◌, ◌*ℤ◌, neg_ℤ, unsigned_abs}
pub use Rattle.units.specs.declared.Ties.{Ties}
pub use Rattle.units.specs.declared.Ties.TheVariants.{ToAway, ToEven}

-- how far two whole numbers are apart
abbrev pub distance : ℕ → ℕ → ℕ
distance a b = (a - b) + (b - a)

-- the whole number of this sign and magnitude; both signs of 0 give 0
abbrev pub signed : Bool → ℕ → ℤ
signed true m = neg_ℤ (pos m)
signed false m = pos m

-- d times the distance between the whole number z and the value
abbrev pub gap : Bool → ℕ → ℕ → ℤ → ℕ
gap negative n d z = unsigned_abs (pos d *ℤ z -ℤ signed negative n)

-- no whole number is closer to the value than z (paper 01, "Numbers": "nearest")
unfoldable pub Nearest : Bool → ℕ → ℕ → ℤ → Type 0
Nearest negative n d z = (y : ℤ) → gap negative n d z ≤ gap negative n d y

-- the value lies exactly between two whole numbers
unfoldable pub Half : ℕ → ℕ → Type 0
Half n d = (m : ℕ) × (2 * n ≡ d * (2 * m + 1))

-- -- The rule at exact halves

-- `Ties` says which of the two nearest numbers is taken: the one away from zero, or the even one (IEEE 754: roundTiesToAway,
-- roundTiesToEven)

-- of all nearest numbers z is the one away from zero (paper 01, "Numbers")
unfoldable pub AwayFromZero : Bool → ℕ → ℕ → ℤ → Type 0
AwayFromZero negative n d z = (y : ℤ) → Nearest negative n d y → unsigned_abs y ≤ unsigned_abs z

-- at an exact half z is even (paper 02, (iv))
unfoldable pub EvenAtHalf : ℕ → ℕ → ℤ → Type 0
EvenAtHalf n d z = Half n d → unsigned_abs z % 2 ≡ 0

-- z is what the rule takes
abbrev pub Taken : Ties → Bool → ℕ → ℕ → ℤ → Type 0
Taken ToAway negative n d z = AwayFromZero negative n d z
Taken ToEven negative n d z = EvenAtHalf n d z

-- z rounds the value: no whole number is closer, and at exact halves it is the one that the rule takes
abbrev pub Rounds : Ties → Bool → ℕ → ℕ → ℤ → Type 0
Rounds ties negative n d z = Nearest negative n d z × Taken ties negative n d z

-- whether a half goes up from the whole number q below it: 1 or 0
abbrev pub half_up : Ties → ℕ → ℕ
half_up ToAway q = 1
half_up ToEven q = q % 2

-- the magnitude of the nearest whole number, halves by the rule
unfoldable pub nearest : Ties → ℕ → ℕ → ℕ
nearest ties n d = (2 * n + (d - 1) + half_up ties (n / d)) / (2 * d)
