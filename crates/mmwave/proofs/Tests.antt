-- The tests of any profile, as what they compare.
use mathlib.Core.Bool.{Bool, true, false, cond, ◌&&◌, ◌||◌}
use mathlib.Core.Path.{◌≡◌, refl, sym, ap, ◌∙◌}
use mathlib.Core.Logic.{◌↔◌}
use Prim.Native.Nat.{ℕ, zero, suc, ◌+◌, ◌-◌, ◌*◌, ◌%◌, ◌/◌, ◌≤◌}
use native.Mathlib.Nat.{zero-add, zero-mod, mod-le, mod-add-mod, div-add-mod, mul-mod_right}
use native.Mathlib.Omega.{arith}
use lib.Dec.{eqb, leb, ltb}
use borrow.Author.Tests.{eq-eqb, le-leb, lt-ltb, eqb-true, leb-true}
use Rattle.digits.proofs.Choices.{and_parts}
use Rattle.mmwave.specs.declared.Rule.{Rule}
use Rattle.mmwave.specs.declared.Rule.TheVariants.{Never, Exact, Multiple, Free}
use Rattle.mmwave.specs.declared.Unit.{Unit}
use Rattle.mmwave.specs.Profile.{Profile, unit_of, legal, count_ok, fits, possible, Leaves}

-- -- Multiples of a unit

-- a multiple taken away leaves the same rest
pub less_multiple : (u a b : ℕ) → b % u ≡ 0 → b ≤ a → (a - b) % u ≡ a % u
less_multiple u a b h i =
    ap (λ (x : ℕ). x % u) (sym (zero-add (a - b))) ∙ ap (λ (x : ℕ). (x + (a - b)) % u) (sym h) ∙ mod-add-mod b u (a - b)
    ∙ ap (λ (x : ℕ). x % u) whole
  where
    whole : b + (a - b) ≡ a
    whole = omega arith

-- two multiples make a multiple
pub more_multiple : (u a b : ℕ) → a % u ≡ 0 → b % u ≡ 0 → (a + b) % u ≡ 0
more_multiple u a b h i = sym (mod-add-mod a u b) ∙ ap (λ (x : ℕ). (x + b) % u) h ∙ ap (λ (x : ℕ). x % u) (zero-add b) ∙ i

-- so many multiples make one
pub times_multiple : (u a k : ℕ) → a % u ≡ 0 → (a * k) % u ≡ 0
times_multiple u a zero h = ap (λ (x : ℕ). x % u) nothing ∙ zero-mod u
  where
    nothing : a * 0 ≡ 0
    nothing = omega arith
times_multiple u a (suc k) h = ap (λ (x : ℕ). x % u) (omega arith) ∙ more_multiple u (a * k) a (times_multiple u a k h) h

-- a number without its rest is a multiple
whole_multiple : (u a : ℕ) → (a - a % u) % u ≡ 0
whole_multiple u a = ap (λ (x : ℕ). x % u) parts ∙ mul-mod_right u (a / u)
  where
    parts : a - a % u ≡ u * (a / u)
    parts = omega (arith, div-add-mod a u)

-- -- The fit of a payload length

fits_forth : (P : Profile) (k room m : ℕ) → fits P (suc k) room m ≡ true → Leaves P k room m
unfolding fits
fits_forth P zero room m h = let g = and_parts (leb m room) (leb (room - m) P.padding) h in
    (leb-true m room g.0, λ e. leb-true (room - m) P.padding g.1)
fits_forth P (suc k) room m h =
    (leb-true m room (and_parts (leb m room) (ltb 1 (suc (suc k)) || leb (room - m) P.padding) h).0, λ e. absurd (omega arith))

fits_back : (P : Profile) (k room m : ℕ) → Leaves P k room m → fits P (suc k) room m ≡ true
unfolding fits
fits_back P zero room m g = rw (le-leb m room g.0, le-leb (room - m) P.padding (g.1 refl))
fits_back P (suc k) room m g = rw (le-leb m room g.0, lt-ltb 1 (suc (suc k)) (omega arith))

-- a payload fits exactly if it lies in the room and, as the last one, leaves no more than padding
pub fits_exactly : (P : Profile) (k room m : ℕ) → (fits P (suc k) room m ≡ true) ↔ Leaves P k room m
fits_exactly P k room m = (fits_forth P k room m, fits_back P k room m)

-- -- The record count

-- at most 32 records, whose headers fit; without records what is left can be padding
abbrev pub Counts : Profile → ℕ → ℕ → Type 0
Counts P l k = (k ≤ 32) × (40 + 8 * k ≤ l) × (k ≡ 0 → l - 40 ≤ P.padding)

count_forth : (P : Profile) (l k : ℕ) → count_ok P l k ≡ true → Counts P l k
unfolding count_ok
count_forth P l zero h = let g = and_parts (leb 40 l) (leb (l - 40) P.padding) h in
    (omega arith, leb-true 40 l g.0, λ e. leb-true (l - 40) P.padding g.1)
count_forth P l (suc k) h =
    let r = ltb 0 (suc k) || leb (l - 40) P.padding in
    let f = and_parts (leb (suc k) 32) (leb (40 + 8 * suc k) l && r) h in
    let g = and_parts (leb (40 + 8 * suc k) l) r f.1 in
    (leb-true (suc k) 32 f.0, leb-true (40 + 8 * suc k) l g.0, λ e. absurd (omega arith))

count_back : (P : Profile) (l k : ℕ) → Counts P l k → count_ok P l k ≡ true
unfolding count_ok
count_back P l zero g = rw (le-leb 40 l g.1, le-leb (l - 40) P.padding (g.2 refl))
count_back P l (suc k) g = rw (le-leb (suc k) 32 g.0, le-leb (40 + 8 * suc k) l g.1, lt-ltb 0 (suc k) (omega arith))

-- a record count passes exactly if it does what the test is for
pub count_tested : (P : Profile) (l k : ℕ) → (count_ok P l k ≡ true) ↔ Counts P l k
count_tested P l k = (count_forth P l k, count_back P l k)

-- -- The rule of a type

multiple_forth : (P : Profile) (k room : ℕ) (unit : Unit) → possible P (suc k) room (Multiple unit) ≡ true
    → (m : ℕ) × (m % unit_of unit ≡ 0) × Leaves P k room m
unfolding possible
multiple_forth P zero room unit h = let u = unit_of unit in
    (room - room % u, whole_multiple u room, (omega arith, λ e. omega (arith, mod-le room u, leb-true (room % u) P.padding h)))
multiple_forth P (suc k) room unit h = (0, zero-mod (unit_of unit), (omega arith, λ e. absurd (omega arith)))

multiple_back : (P : Profile) (k room m : ℕ) (unit : Unit) → m % unit_of unit ≡ 0 → Leaves P k room m
    → possible P (suc k) room (Multiple unit) ≡ true
unfolding possible
multiple_back P zero room m unit h g = let u = unit_of unit in
    le-leb (room % u) P.padding (omega (arith, less_multiple u room m h g.0, mod-le (room - m) u, g.1 refl))
multiple_back P (suc k) room m unit h g = rw (lt-ltb 1 (suc (suc k)) (omega arith))

possible_forth : (P : Profile) (k room : ℕ) (rule : Rule) → possible P (suc k) room rule ≡ true
    → (m : ℕ) × (legal rule m ≡ true) × Leaves P k room m
unfolding possible
possible_forth P k room Never h = let z : ◌≡◌ {A = ℕ} 0 1 = cc in absurd (omega arith)
possible_forth P k room (Exact m) h = (m, eq-eqb m m refl, fits_forth P k room m h)
possible_forth P k room (Multiple u) h = let g = multiple_forth P k room u h in (g.0, eq-eqb (g.0 % unit_of u) 0 g.1, g.2)
possible_forth P k room Free h = (room, refl, (omega arith, λ e. omega arith))

possible_back : (P : Profile) (k room m : ℕ) (rule : Rule) → legal rule m ≡ true → Leaves P k room m → possible P (suc k) room rule ≡ true
unfolding possible
possible_back P k room m Never l f = let z : ◌≡◌ {A = ℕ} 0 1 = cc in absurd (omega arith)
possible_back P k room m (Exact n) l f = rw (← eqb-true m n l) (fits_back P k room m f)
possible_back P k room m (Multiple unit) l f = multiple_back P k room m unit (eqb-true (m % unit_of unit) 0 l) f
possible_back P k room m Free l f = refl

-- a rule passes exactly if a legal length of it fits
pub possible_exactly : (P : Profile) (k room : ℕ) (rule : Rule)
    → (possible P (suc k) room rule ≡ true) ↔ ((m : ℕ) × (legal rule m ≡ true) × Leaves P k room m)
possible_exactly P k room rule = (possible_forth P k room rule, λ g. possible_back P k room g.0 rule g.1 g.2)

-- -- A rule by the type

-- a length is legal if it is by the rule of its type and by that of all others
pub one_type : (type i m : ℕ) (x y : Rule) → (type ≡ i → legal x m ≡ true) → legal y m ≡ true → legal (cond (eqb type i) x y) m ≡ true
one_type type i m x y f g = go (eqb type i) refl
  where
    go : (b : Bool) → eqb type i ≡ b → legal (cond b x y) m ≡ true
    go true a = f (eqb-true type i a)
    go false a = g

-- what follows from the rule of the type and from that of all others follows
pub one_rule : (A : Type 0) (type i m : ℕ) (x y : Rule) → (type ≡ i → legal x m ≡ true → A) → (legal y m ≡ true → A)
    → legal (cond (eqb type i) x y) m ≡ true → A
one_rule A type i m x y f g h = go (eqb type i) refl h
  where
    go : (b : Bool) → eqb type i ≡ b → legal (cond b x y) m ≡ true → A
    go true e h = f (eqb-true type i e) h
    go false e h = g h
