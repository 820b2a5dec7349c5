use Rattle.std.proofs.Common.{◌≡◌, ℕ, [], ◌∷◌, List, map, Vec, Global, true, false, true≢false, nat_eq, sym, refl, ◌∙◌}
use Rattle.std.specs.Cmp.Lexicographic.{pointwise, bytes_decides}
use Rattle.std.specs.Cmp.{first_so, second_so}
use Rattle.test_world.proofs.agreeing.are_same.Goals as goal

-- lines that are equal byte by byte
same : (xs ys : List (Vec ℕ Global)) → pointwise (λ x y. pointwise nat_eq x.items y.items) xs ys ≡ true → map (λ x. x.items) xs ≡ map (λ x. x.items) ys
same [] [] h = refl
same [] (y ∷ ys) h = absurd (true≢false (sym h))
same (x ∷ xs) [] h = absurd (true≢false (sym h))
same (x ∷ xs) (y ∷ ys) h =
    let here = first_so (pointwise nat_eq x.items y.items) (pointwise (λ a b. pointwise nat_eq a.items b.items) xs ys) h in
    let rest = second_so (pointwise nat_eq x.items y.items) (pointwise (λ a b. pointwise nat_eq a.items b.items) xs ys) h in
    λ i. (bytes_decides x.items y.items).0 here i ∷ same xs ys rest i

pub returns : goal.returns
returns c = λ so. same c.args.lines.now c.args.others.now (sym c.eq.ensures ∙ so)
