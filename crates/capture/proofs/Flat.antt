-- Lists laid flat.
use Rattle.std.proofs.Common.{◌≡◌, List, [], ◌∷◌, ◌++◌, map, refl, ap}
use Rattle.std.specs.List.{flat_map}

pub flat_mapped : {X A : Type 0} (f : X → List A) (xs : List X) → flat_map (λ x. x) (map f xs) ≡ flat_map f xs
flat_mapped f [] = refl
flat_mapped f (x ∷ xs) = ap (λ t. f x ++ t) (flat_mapped f xs)
