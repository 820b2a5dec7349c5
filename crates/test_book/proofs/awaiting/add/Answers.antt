use Rattle.std.proofs.Common.{◌++◌, ◌∷◌, ℕ, List, [], length, refl, sym, subst}
use Rattle.ot_model.specs.declared.stmt.Use.{Use}
use Rattle.ot_depend.specs.Siblings.{Sibling, IsUnfinished, sibling_created}
use Rattle.test_book.proofs.awaiting.add.Goals as goal

-- a child that was just added has not finished
added : (siblings : List Sibling) (uses : List Use) (groups : List ℕ) → IsUnfinished (siblings ++ sibling_created uses groups ∷ []) (length siblings)
added [] uses groups = record { itself = sibling_created uses groups; known = refl; unfinished = refl }
added (s ∷ siblings) uses groups =
    let rest = added siblings uses groups in
    record { itself = rest.itself; known = rest.known; unfinished = rest.unfinished }

pub finish-requires-clause-unfinished : goal.finish-requires-clause-unfinished
finish-requires-clause-unfinished c =
    subst (λ n. IsUnfinished c.add.new.self n) (sym c.in_ok-child.ensures.number) (subst (λ s. IsUnfinished s (length c.args.siblings.now)) (sym c.in_ok-child.ensures.added) (added c.args.siblings.now _ _))
