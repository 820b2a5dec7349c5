use Rattle.std.proofs.Common.{◌≡◌, ◌≢◌, ℕ, zero, suc, List, [], ◌∷◌, refl, sym, ap, subst, arith}
use Rattle.ot_depend.specs.Siblings.{Sibling, IsUnfinished, with_finished}
use Rattle.test_book.proofs.children.finish_first.Goals as goal

-- a child is as unfinished as before where another one finishes
kept : (siblings : List Sibling) (child other : ℕ) → child ≢ other → IsUnfinished siblings other → IsUnfinished (with_finished siblings child) other
kept [] child other apart before = before
kept (x ∷ xs) zero zero apart before = absurd (apart refl)
kept (x ∷ xs) zero (suc other) apart before = record { itself = before.itself; known = before.known; unfinished = before.unfinished }
kept (x ∷ xs) (suc child) zero apart before = record { itself = before.itself; known = before.known; unfinished = before.unfinished }
kept (x ∷ xs) (suc child) (suc other) apart before =
    let rest : IsUnfinished xs other = record { itself = before.itself; known = before.known; unfinished = before.unfinished } in
    let after = kept xs child other (λ same. apart (ap suc same)) rest in
    record { itself = after.itself; known = after.known; unfinished = after.unfinished }

pub finish-requires-2-clause-unfinished : goal.finish-requires-2-clause-unfinished
finish-requires-2-clause-unfinished c =
    subst (λ s. IsUnfinished s 1) (sym c.finish.ensures) (kept c.args.siblings.now 0 1 (λ same. omega (arith, same)) c.requires.one)

pub finish-requires-3-clause-unfinished : goal.finish-requires-3-clause-unfinished
finish-requires-3-clause-unfinished c =
    let once : IsUnfinished c.finish.new.self 2 =
    subst (λ s. IsUnfinished s 2) (sym c.finish.ensures) (kept c.args.siblings.now 0 2 (λ same. omega (arith, same)) c.requires.two) in
    subst (λ s. IsUnfinished s 2) (sym c.finish-2.ensures) (kept c.finish.new.self 1 2 (λ same. omega (arith, same)) once)
