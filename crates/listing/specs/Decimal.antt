-- Numbers in decimal: most significant digit first, no leading zeros.
use Rattle.std.specs.Prelude.{cond, List, [], ◌∷◌, ◌++◌, ℕ, zero, suc, ◌+◌, ◌-◌, ◌*◌, ◌/◌, ◌%◌, ◌^◌, ◌≤◌, ◌<◌, ltb}

-- the byte of the digit d
abbrev pub figure : ℕ → ℕ
figure d = 48 + d

-- the lowest n digits of v
unfoldable pub decimals : ℕ → ℕ → List ℕ
decimals zero v = []
decimals (suc n) v = decimals n (v / 10) ++ (figure (v % 10) ∷ [])

-- how many digits a number of 32 bits takes
unfoldable pub width : ℕ → ℕ
width v =
    cond (ltb v 10) 1
    (cond (ltb v 100) 2
    (cond (ltb v 1000) 3
    (cond (ltb v 10000) 4
    (cond (ltb v 100000) 5
    (cond (ltb v 1000000) 6
    (cond (ltb v 10000000) 7
    (cond (ltb v 100000000) 8
    (cond (ltb v 1000000000) 9 10))))))))

-- a number of 32 bits in decimal
unfoldable pub decimal : ℕ → List ℕ
decimal v = decimals (width v) v

-- the number that decimal digits give when v stands in front of them
unfoldable pub tens_from : ℕ → List ℕ → ℕ
tens_from v [] = v
tens_from v (b ∷ bs) = tens_from (v * 10 + (b - 48)) bs

-- n digits hold v, and no fewer do
abbrev pub Fewest : ℕ → ℕ → Type 0
Fewest v n = (v < 10 ^ n) × (10 ≤ v → 10 ^ (n - 1) ≤ v)
