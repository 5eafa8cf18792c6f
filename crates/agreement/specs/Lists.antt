-- What stands in a list, and lists without repeats.
use Rattle.std.specs.Prelude.{◌≡◌, ◌⊎◌, List, [], ◌∷◌}

-- x stands in the list
abbrev pub In : {X : Type 0} → X → List X → Type 0
In x [] = ⊥
In x (y ∷ ys) = (x ≡ y) ⊎ In x ys

-- nothing stands in the list twice
abbrev pub Once : {X : Type 0} → List X → Type 0
Once [] = Unit
Once (x ∷ xs) = (¬ In x xs) × Once xs
