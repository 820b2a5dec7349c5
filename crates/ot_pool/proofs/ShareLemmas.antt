-- Sums over shares.
use Rattle.std.proofs.Common.{◌≡◌, ℕ, List, [], ◌∷◌, length, refl, arith}
use Rattle.std.specs.List.{All, sum_by}
use Rattle.std.proofs.lemmas.List.Sums.{sum_by-cons}
use Rattle.std.proofs.lemmas.List.Elements.{All-head, All-tail}

pub sum_by-ones : {X : Type 0} (f : X → ℕ) (xs : List X) → All (λ x. f x ≡ 1) xs → sum_by f xs ≡ length xs
sum_by-ones f [] ones = refl
sum_by-ones f (x ∷ xs) ones =
    omega (arith, sum_by-cons f x xs, All-head (λ y. f y ≡ 1) x xs ones, sum_by-ones f xs (All-tail (λ y. f y ≡ 1) x xs ones))
