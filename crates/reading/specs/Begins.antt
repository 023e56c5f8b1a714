-- A list that begins with another.
use Rattle.std.specs.Prelude.{◌≡◌, List, [], ◌∷◌}

-- the second list begins with exactly the first
unfoldable pub Begins : {A : Type 0} → List A → List A → Type 0
Begins [] ys = Unit {0}
Begins (x ∷ xs) [] = ⊥
Begins (x ∷ xs) (y ∷ ys) = (x ≡ y) × Begins xs ys
