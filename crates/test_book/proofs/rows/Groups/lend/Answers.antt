use Rattle.std.proofs.Common.{rules, ◌≡◌, ◌∙◌, ◌∷◌, [], sym, ap, subst, List, arith}
use Rattle.std.specs.Prelude.{All, IsSome}
use Rattle.ot_model.specs.Cells.{cell_of}
use Rattle.ot_model.specs.declared.fold.Fold.{Fold as Operation}
use Rattle.ot_model.specs.declared.stmt.Mode.TheVariants.{Folds}
use Rattle.ot_model.specs.declared.stmt.Use.{Use}
use Rattle.ot_owner.specs.Keeping.{Prepared}
use Rattle.ot_owner.specs.Owning.{Owned, IsFreeFor, Summed, IsSummedBy, begun_for}
use Rattle.test_book.specs.TwoGroups.{nth, AreTwo}
use Rattle.test_book.proofs.TwoLemmas.{all-one, there, same-operation, two-summed, two-begun}
use Rattle.test_book.proofs.rows.Groups.lend.Goals as goal

pub lease-requires-clause-free : goal.lease-requires-clause-free
lease-requires-clause-free c =
    let free : IsFreeFor c.self.inside.owners.owned.out c.in_ok-decl.decl = c.if-not-free_for.ensures.exact.0 (search rules) in
    let uses = ap (λ (s : Prepared). s.uses) c.in_ok-slip.ensures.slip in
    subst (λ (o : Owned). IsFreeFor o.out c.in_ok-slip.slip.uses) (sym c.in_ok-slip.ensures.owned)
    (subst (λ (us : List Use). IsFreeFor c.self.inside.owners.owned.out us) (sym uses) free)

pub lease-requires-clause-there : goal.lease-requires-clause-there
lease-requires-clause-there c =
    let u : Use = record { cell = nth c.args.index; mode = Folds c.self.inside.op } in
    let uses : c.in_ok-slip.slip.uses ≡ u ∷ [] = ap (λ (s : Prepared). s.uses) c.in_ok-slip.ensures.slip ∙ c.in_ok-decl.ensures in
    subst (All (λ (u : Use). IsSome (cell_of c.self.inside.cells u.cell))) (sym uses)
    (all-one (λ (u : Use). IsSome (cell_of c.self.inside.cells u.cell)) u (there c.self.inside.cells c.args.index c.self.invariant.1 (omega (arith, c.requires.named))))

pub lease-requires-clause-summed : goal.lease-requires-clause-summed
lease-requires-clause-summed c =
    let op = c.self.inside.op in
    let u : Use = record { cell = nth c.args.index; mode = Folds op } in
    let uses : c.in_ok-slip.slip.uses ≡ u ∷ [] = ap (λ (s : Prepared). s.uses) c.in_ok-slip.ensures.slip ∙ c.in_ok-decl.ensures in
    let Q : List Summed → Use → Type 0 = λ gs u. (o : Operation) → u.mode ≡ Folds o → IsSummedBy gs o u.cell in
    subst (All (Q c.prepare_again.new.owners.owned.groups)) (sym uses)
    (subst (λ (o : Owned). All (Q o.groups) (u ∷ [])) (sym c.in_ok-slip.ensures.owned)
    (all-one (Q c.self.inside.owners.owned.groups) u (λ o folds. subst (λ (o : Operation). IsSummedBy c.self.inside.owners.owned.groups o (nth c.args.index))
    (same-operation op o folds) (two-summed op c.args.index c.self.inside.owners.owned.groups c.requires.named c.self.invariant.0))))

pub invariant_of-self-2 : goal.invariant_of-self-2
invariant_of-self-2 c =
    let slip = c.in_ok-slip.slip in
    let op = c.self.inside.op in
    let groups = c.lease.ensures.groups ∙ ap (λ (o : Owned). begun_for slip.worker slip.uses o.groups) c.in_ok-slip.ensures.owned in
    (subst (AreTwo op) (sym groups) (two-begun slip.worker slip.uses op c.self.inside.owners.owned.groups c.self.invariant.0), c.self.invariant.1)
