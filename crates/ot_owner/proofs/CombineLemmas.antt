-- Combining a number with copies: a number more in one copy is that number more in all, and the unit makes no difference.
use Rattle.std.proofs.Common.{◌≡◌, ℕ, suc, ◌+◌, ◌*◌, ◌^◌, ◌<◌, ◌⊎◌, List, [], ◌∷◌, refl, sym, ap, ◌∙◌, inl, inr, arith}
use Rattle.std.proofs.Math.Nat.{mod-lt}
use Rattle.std.proofs.lemmas.Nat.{or_lt, xor_lt}
use Rattle.std.specs.List.{All}
use Rattle.std.specs.Prelude.{bit_and}
use Rattle.ot_model.specs.Joining.{join_by, unit_of}
use Rattle.ot_model.specs.Monoids.{join-associative, join-commutative, join-neutral, join-absorbed, join-swap}
use Rattle.ot_model.specs.declared.fold.Fold.{Fold as Operation}
use Rattle.ot_model.specs.declared.fold.Fold.TheVariants.{Plus, Times, And, Or, Xor, Min, Max}
use Rattle.ot_owner.specs.Worth.{copies_combined}

-- one of the copies has a number more, and no other changes
abbrev pub Grew : Operation → ℕ → List ℕ → List ℕ → Type 0
Grew o v [] ys = ⊥
Grew o v (x ∷ xs) [] = ⊥
Grew o v (x ∷ xs) (y ∷ ys) = ((y ≡ join_by o x v) × (ys ≡ xs)) ⊎ ((y ≡ x) × Grew o v xs ys)

pub combined-shift : (o : Operation) (s v : ℕ) (xs : List ℕ) → copies_combined o (join_by o s v) xs ≡ join_by o (copies_combined o s xs) v
combined-shift o s v [] = refl
combined-shift o s v (x ∷ xs) = ap (λ n. copies_combined o n xs) (join-swap o v x s) ∙ combined-shift o (join_by o s x) v xs

-- one copy has a number more
pub combined-grew : (o : Operation) (v s : ℕ) (xs ys : List ℕ) → Grew o v xs ys → copies_combined o s ys ≡ join_by o (copies_combined o s xs) v
combined-grew o v s [] ys grew = absurd grew
combined-grew o v s (x ∷ xs) [] grew = absurd grew
combined-grew o v s (x ∷ xs) (y ∷ ys) (inl (is, same)) =
    ap (λ n. copies_combined o (join_by o s n) ys) is ∙ ap (copies_combined o (join_by o s (join_by o x v))) same
    ∙ ap (λ n. copies_combined o n xs) (sym (join-associative o s x v)) ∙ combined-shift o (join_by o s x) v xs
combined-grew o v s (x ∷ xs) (y ∷ ys) (inr (is, grew)) =
    ap (λ n. copies_combined o (join_by o s n) ys) is ∙ combined-grew o v (join_by o s x) xs ys grew

-- one copy has the unit more
pub combined-idle : (o : Operation) (s : ℕ) (xs ys : List ℕ) → Grew o (unit_of o) xs ys → copies_combined o s ys ≡ copies_combined o s xs
combined-idle o s [] ys grew = absurd grew
combined-idle o s (x ∷ xs) [] grew = absurd grew
combined-idle o s (x ∷ xs) (y ∷ ys) (inl (is, same)) =
    ap (λ n. copies_combined o (join_by o s n) ys) is ∙ ap (copies_combined o (join_by o s (join_by o x (unit_of o)))) same
    ∙ ap (λ n. copies_combined o n xs) (ap (join_by o s) (join-commutative o x (unit_of o)) ∙ join-absorbed o s x)
combined-idle o s (x ∷ xs) (y ∷ ys) (inr (is, grew)) =
    ap (λ n. copies_combined o (join_by o s n) ys) is ∙ combined-idle o (join_by o s x) xs ys grew

pub join-unit : (o : Operation) (s : ℕ) → s < 2 ^ 64 → join_by o s (unit_of o) ≡ s
join-unit o s small = (join-neutral o s small).0

pub unit-small : (o : Operation) → unit_of o < 2 ^ 64
unit-small Plus = omega arith
unit-small Times = omega arith
unit-small And = omega arith
unit-small Or = omega arith
unit-small Xor = omega arith
unit-small Min = omega arith
unit-small Max = omega arith

pub join-small : (o : Operation) (s x : ℕ) → s < 2 ^ 64 → x < 2 ^ 64 → join_by o s x < 2 ^ 64
join-small Plus s x one two = let some : 0 < 2 ^ 64 = omega arith in mod-lt (s + x) some
join-small Times s x one two = let some : 0 < 2 ^ 64 = omega arith in mod-lt (s * x) some
join-small And s x one two = let some : 0 < 2 ^ 64 = omega arith in mod-lt (bit_and s x) some
join-small Or s x one two = or_lt 64 s x one two
join-small Xor s x one two = xor_lt 64 s x one two
join-small Min s x one two = omega (arith, one, two)
join-small Max s x one two = omega (arith, one, two)

pub combined-small : (o : Operation) (s : ℕ) (xs : List ℕ) → s < 2 ^ 64 → All (λ n. n < 2 ^ 64) xs → copies_combined o s xs < 2 ^ 64
combined-small o s [] small all = small
combined-small o s (x ∷ xs) small all =
    combined-small o (join_by o s x) xs (join-small o s x small (all 0 x (omega arith))) (λ k d within. all (suc k) d (omega (arith, within)))

-- copies are combined in any order
pub combined-swap : (o : Operation) (s : ℕ) (xs ys : List ℕ) → copies_combined o (copies_combined o s xs) ys ≡ copies_combined o (copies_combined o s ys) xs
combined-swap o s xs [] = refl
combined-swap o s xs (y ∷ ys) = ap (λ n. copies_combined o n ys) (sym (combined-shift o s y xs)) ∙ combined-swap o (join_by o s y) xs ys
