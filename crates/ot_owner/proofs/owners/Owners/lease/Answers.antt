use Rattle.std.proofs.Common.{◌≡◌, ◌∙◌, ap, sym, subst}
use Rattle.std.specs.Prelude.{All, ◌<◌}
use Rattle.ot_model.specs.Cells.{AreInOrder, cell_of}
use Rattle.ot_model.specs.declared.fold.Fold.{Fold as Operation}
use Rattle.ot_model.specs.declared.stmt.Mode.TheVariants.{Folds}
use Rattle.ot_owner.specs.Keeping.{IsSound}
use Rattle.ot_owner.specs.Lending.{uses_of}
use Rattle.ot_owner.specs.Owning.{Loan, Owned, IsFreeFor, IsSummedBy, begun_for}
use Rattle.ot_owner.specs.Kept.{loans_in, summeds_of}
use Rattle.ot_owner.specs.Worth.{worth_over}
use Rattle.ot_owner.proofs.OpenLemmas.{begun-alike, begun-worth, leased-sound, same_small}
use Rattle.ot_owner.proofs.RightsLemmas.{uses_of-lent_from}
use Rattle.ot_owner.proofs.owners.Owners.lease.Goals as goal

pub invariant_of-self : goal.invariant_of-self
invariant_of-self c =
    let out = loans_in c.self.inside.rights in
    let before = summeds_of c.self.inside.groups.items in
    let loan : Loan = c.fill-lent.result.1 in
    let uses : loan.lease.uses ≡ c.args.slip.uses = ap (λ (l : Loan). l.lease.uses) c.fill-lent.ensures.loan ∙ uses_of-lent_from c.args.cells.now c.args.slip.uses in
    let begun : summeds_of c.begin_rows.new.groups.items ≡ begun_for loan.worker loan.lease.uses before =
    c.begin_rows.ensures.begun ∙ begun-alike c.worker.result c.folds.result.now c.args.slip.uses before c.folds.ensures
    ∙ ap (λ us. begun_for c.worker.result us before) (sym uses)
    ∙ ap (λ w. begun_for w loan.lease.uses before) (c.worker.ensures.worker ∙ sym (ap (λ (l : Loan). l.worker) c.fill-lent.ensures.loan)) in
    let owned : record { out = out; groups = before } ≡ c.args.self.now.owned = ap (λ k. k.owned) c.self.view_is in
    let free : IsFreeFor out loan.lease.uses = subst (IsFreeFor out) (sym uses) (subst (λ (o : Owned). IsFreeFor o.out c.args.slip.uses) (sym owned) c.requires.free) in
    let summed : All (λ u. (op : Operation) → u.mode ≡ Folds op → IsSummedBy before op u.cell) loan.lease.uses =
    subst (All (λ u. (op : Operation) → u.mode ≡ Folds op → IsSummedBy before op u.cell)) (sym uses) (subst (λ (o : Owned). All (λ u. (op : Operation) → u.mode ≡ Folds op → IsSummedBy o.groups op u.cell) c.args.slip.uses) (sym owned) c.requires.summed) in
    let known : loan.worker < 17 = subst (λ w. w < 17) (c.worker.ensures.worker ∙ sym (ap (λ (l : Loan). l.worker) c.fill-lent.ensures.loan)) c.worker.ensures.known in
    subst (λ gs. IsSound (record { out = loans_in c.put-key.new.self; groups = gs })) (sym begun)
    (leased-sound loan out (loans_in c.put-key.new.self) before known c.put-key.ensures.put free summed c.self.invariant)

pub returns-clause-worth : goal.returns-clause-worth
returns-clause-worth c = λ cell.
    let before = summeds_of c.self.inside.groups.items in
    let gs = c.args.self.now.owned.groups in
    let was : before ≡ gs = ap (λ k. k.owned.groups) c.self.view_is in
    same_small (worth_over (summeds_of c.begin_rows.new.groups.items) cell) (worth_over gs cell) (cell_of c.args.cells.now cell) (c.numbers.ensures cell)
    (λ n small. ap (λ hs. worth_over hs cell n) c.begin_rows.ensures.begun ∙ begun-worth c.worker.result c.folds.result.now before cell n small c.self.invariant.regular ∙ ap (λ hs. worth_over hs cell n) was)

pub new-requires : goal.new-requires
new-requires c =
    subst AreInOrder (sym (ap uses_of c.fill-lent.ensures.lent ∙ uses_of-lent_from c.args.cells.now c.args.slip.uses)) c.fill-lent.ensures.ordered
