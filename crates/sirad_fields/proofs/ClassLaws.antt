-- Bytes that pass a list of classes, in parts.
use mathlib.Core.Path.{◌≡◌, refl, ap}
use mathlib.Core.List.{List, [], ◌∷◌, ◌++◌}
use Prim.Native.Nat.{ℕ, zero, suc}
use lib.ListN.{length, take, drop, replicate}
use Rattle.digits.specs.Hex.{AllHex}
use Rattle.sirad.specs.Classes.{Class, Hex, Passes}

-- two parts that pass pass together
pub passes_append : (cs ds : List Class) (xs ys : List ℕ) → Passes cs xs → Passes ds ys → Passes (cs ++ ds) (xs ++ ys)
unfolding Passes
passes_append [] ds [] ys p q = q
passes_append [] ds (x ∷ xs) ys p q = absurd p
passes_append (c ∷ cs) ds [] ys p q = absurd p
passes_append (c ∷ cs) ds (x ∷ xs) ys p q = (p.0, passes_append cs ds xs ys p.1 q)

-- and each by itself
pub passes_split : (cs ds : List Class) (bs : List ℕ) → Passes (cs ++ ds) bs
    → Passes cs (take (length cs) bs) × Passes ds (drop (length cs) bs)
unfolding Passes
passes_split [] ds bs p = (tt, p)
passes_split (c ∷ cs) ds [] p = absurd p
passes_split (c ∷ cs) ds (b ∷ bs) p = let g = passes_split cs ds bs p.1 in ((p.0, g.0), g.1)

-- there is a byte for each class
pub passes_length : (cs : List Class) (bs : List ℕ) → Passes cs bs → length bs ≡ length cs
unfolding Passes
passes_length [] [] p = refl
passes_length [] (b ∷ bs) p = absurd p
passes_length (c ∷ cs) [] p = absurd p
passes_length (c ∷ cs) (b ∷ bs) p = ap suc (passes_length cs bs p.1)

-- digits pass the classes of a hex field
pub hex_passes : (xs : List ℕ) → AllHex xs → Passes (replicate (length xs) Hex) xs
unfolding Passes AllHex
hex_passes [] h = tt
hex_passes (x ∷ xs) h = (h.0, hex_passes xs h.1)

-- and only digits
pub passes_hex : (n : ℕ) (xs : List ℕ) → Passes (replicate n Hex) xs → AllHex xs × (length xs ≡ n)
unfolding Passes AllHex
passes_hex zero [] p = (tt, refl)
passes_hex zero (x ∷ xs) p = absurd p
passes_hex (suc n) [] p = absurd p
passes_hex (suc n) (x ∷ xs) p = let g = passes_hex n xs p.1 in ((p.0, g.0), ap suc g.1)
