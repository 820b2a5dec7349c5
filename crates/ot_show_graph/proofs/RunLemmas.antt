-- Children that are chosen by what they are.
use Rattle.std.proofs.Common.{◌≡◌, ◌↔◌, ◌∷◌, [], List, Bool, true, false, IsTrue, cond, refl, ap}
use Rattle.std.specs.List.{filter}
use Rattle.ot_model.specs.Cells.{DependsOn, depends_on}
use Rattle.ot_model.specs.declared.stmt.Use.{Use}
use Rattle.ot_depend.proofs.ReadyLemmas.{same_answer, DependsOn-from_test, depends_on-from_DependsOn}
use Rattle.ot_show_graph.specs.Created.{Created}
use Rattle.ot_show_graph.specs.Children.{created_of, all_of}
use Rattle.ot_show_graph.specs.declared.child.Child.{Child}

-- the test of a dependence is what it tests
pub depends_on-is : (b : Bool) (earlier later : List Use) → IsTrue b ↔ DependsOn earlier later → b ≡ depends_on earlier later
depends_on-is b earlier later told =
    same_answer b (depends_on earlier later)
    (λ passed. depends_on-from_DependsOn earlier later (told.0 passed)) (λ passed. told.1 (DependsOn-from_test earlier later passed))

-- what is chosen of children stands for what is chosen of that for which they stand
pub all_of-filter : (test : Created → Bool) (cs : List Child) → all_of (filter (λ c. test (created_of c)) cs) ≡ filter test (all_of cs)
all_of-filter test [] = refl
all_of-filter test (c ∷ cs) =
    let some = filter (λ (x : Child). test (created_of x)) cs in
    let by : (b : Bool) → all_of (cond b (c ∷ some) some) ≡ cond b (created_of c ∷ filter test (all_of cs)) (filter test (all_of cs)) =
    λ b. elim b as (λ b. all_of (cond b (c ∷ some) some) ≡ cond b (created_of c ∷ filter test (all_of cs)) (filter test (all_of cs))) [
      | true ↦ ap (λ xs. created_of c ∷ xs) (all_of-filter test cs)
      | false ↦ all_of-filter test cs
    ] in
    by (test (created_of c))
