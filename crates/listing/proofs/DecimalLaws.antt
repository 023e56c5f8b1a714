-- Decimal numbers: how many bytes they take, that the last digit may be stored first, and that the digits read back as the number.
use Rattle.std.proofs.Common.{◌≡◌, ℕ, zero, suc, ◌+◌, ◌-◌, ◌*◌, ◌/◌, ◌%◌, ◌^◌, ◌<◌, ◌≤◌, Bool, true, false, cond, ltb, List, [], ◌∷◌, ◌++◌, length, set, sym, refl, ap, ◌∙◌, mul_comm, add-one, arith, length-append, pow-add, ltb-false, ltb-true}
use Rattle.digits.specs.Stores.{stored}
use Rattle.digits.proofs.StoreLaws.{stored_append, set_behind}
use Rattle.listing.specs.Decimal.{decimals, width, decimal, figure, tens_from, Fewest}
use Rattle.listing.specs.Internal.{Puts}

-- -- Lengths

pub length_decimals : (n v : ℕ) → length (decimals n v) ≡ n
unfolding decimals
length_decimals zero v = refl
length_decimals (suc n) v = length-append (decimals n (v / 10)) (figure (v % 10) ∷ []) ∙ rw (length_decimals n (v / 10)) (add-one n)

at_most : (t : Bool) (x y : ℕ) → x ≤ 10 → y ≤ 10 → cond t x y ≤ 10
at_most true x y h k = h
at_most false x y h k = k

-- a number of 32 bits takes at most ten digits
pub width_most : (v : ℕ) → width v ≤ 10
unfolding width
width_most v =
    at_most (ltb v 10) _ _ (omega arith)
    (at_most (ltb v 100) _ _ (omega arith)
    (at_most (ltb v 1000) _ _ (omega arith)
    (at_most (ltb v 10000) _ _ (omega arith)
    (at_most (ltb v 100000) _ _ (omega arith)
    (at_most (ltb v 1000000) _ _ (omega arith)
    (at_most (ltb v 10000000) _ _ (omega arith)
    (at_most (ltb v 100000000) _ _ (omega arith) (at_most (ltb v 1000000000) _ _ (omega arith) (omega arith)))))))))

pub length_decimal : (v : ℕ) → length (decimal v) ≡ width v
unfolding decimal
length_decimal v = length_decimals (width v) v

-- -- The last digit first

last_first : (l : List ℕ) (at m v : ℕ)
    → stored (set l (at + m) (figure (v % 10))) at (decimals m (v / 10)) ≡ stored l at (decimals (suc m) v)
unfolding decimals stored
last_first l at m v =
    sym (rw (length_decimals m (v / 10)) at
    (stored_append l at (decimals m (v / 10)) (figure (v % 10) ∷ []))
    ∙ set_behind l at (decimals m (v / 10)) (at + m) (figure (v % 10)) (omega (arith, length_decimals m (v / 10))))

-- the digit before those already stored
pub digit_step : (l : List ℕ) (at left v : ℕ) → 0 < left
    → stored (set l (at + (left - 1)) (figure (v % 10))) at (decimals (left - 1) (v / 10)) ≡ stored l at (decimals left v)
digit_step l at left v h =
    let e : left ≡ suc (left - 1) = omega arith in
    last_first l at (left - 1) v ∙ ap (λ (n : ℕ). stored l at (decimals n v)) (sym e)

-- every digit is stored
pub digits_over : (l l₀ : List ℕ) (at n left rest v : ℕ) → left ≡ 0 → n ≡ width v
    → stored l at (decimals left rest) ≡ stored l₀ at (decimal v) → Puts (decimal v) l₀ at (at + n) l
unfolding decimals stored
digits_over l l₀ at n left rest v z w e = record { leaves = rw z at e; ends = rw (length_decimal v) (ap (λ (m : ℕ). at + m) w) }

-- -- Reading back

tens_last : (v : ℕ) (bs : List ℕ) (d : ℕ) → tens_from v (bs ++ (figure d ∷ [])) ≡ tens_from v bs * 10 + d
unfolding tens_from
tens_last v [] d = omega arith
tens_last v (b ∷ bs) d = tens_last (v * 10 + (b - 48)) bs d

decimals_read : (n v : ℕ) → v < 10 ^ n → tens_from 0 (decimals n v) ≡ v
unfolding tens_from decimals
decimals_read zero v h = omega arith
decimals_read (suc n) v h =
    let p : 10 ^ suc n ≡ 10 * 10 ^ n = pow_suc n in
    let k : v / 10 < 10 ^ n = omega arith in
    tens_last 0 (decimals n (v / 10)) (v % 10) ∙ rw (decimals_read n (v / 10) k) (omega arith)
  where
    pow_suc : (n : ℕ) → 10 ^ suc n ≡ 10 * 10 ^ n
    pow_suc n = rw (← add-one n) (pow-add 10 n 1 ∙ mul_comm _ _)

by_width : (v n rest : ℕ) → (10 ≤ v → 10 ^ (n - 1) ≤ v) → (10 ^ n ≤ v → Fewest v rest) → Fewest v (cond (ltb v (10 ^ n)) n rest)
by_width v n rest low f = go (ltb v (10 ^ n)) refl
  where
    go : (t : Bool) → ltb v (10 ^ n) ≡ t → Fewest v (cond t n rest)
    go true e = (ltb-true v (10 ^ n) e, low)
    go false e = f (ltb-false v (10 ^ n) e)

-- a number of 32 bits takes as many digits as hold it, and no leading zero
pub width_fewest : (v : ℕ) → v < 2 ^ 32 → Fewest v (width v)
unfolding width
width_fewest v h =
    by_width v 1 _ (λ l. omega arith)
    (λ a. by_width v 2 _ (λ l. a)
    (λ b. by_width v 3 _ (λ l. b)
    (λ c. by_width v 4 _ (λ l. c)
    (λ d. by_width v 5 _ (λ l. d)
    (λ e. by_width v 6 _ (λ l. e)
    (λ f. by_width v 7 _ (λ l. f)
    (λ g. by_width v 8 _ (λ l. g) (λ i. by_width v 9 _ (λ l. i) (λ j. (omega arith, λ l. j))))))))))

-- the digits read back as the number
pub decimal_reads_back : (v : ℕ) → v < 2 ^ 32 → tens_from 0 (decimal v) ≡ v
unfolding decimal
decimal_reads_back v h = decimals_read (width v) v (width_fewest v h).0
