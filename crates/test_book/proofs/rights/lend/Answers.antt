use Rattle.std.proofs.Common.{rules, ◌∙◌, sym, ap, subst, List}
use Rattle.ot_model.specs.declared.stmt.Use.{Use}
use Rattle.ot_owner.specs.Keeping.{Prepared}
use Rattle.ot_owner.specs.Owning.{Owned, IsFreeFor}
use Rattle.test_book.proofs.rights.lend.Goals as goal

pub lease-requires-clause-free : goal.lease-requires-clause-free
lease-requires-clause-free c =
    let free : IsFreeFor c.args.owners.now.owned.out c.in_ok-decl.decl = c.if-not-free_for.ensures.exact.0 (search rules) in
    let uses = ap (λ (s : Prepared). s.uses) c.in_ok-slip.ensures.slip ∙ c.in_ok-new.ensures.ok in
    subst (λ (o : Owned). IsFreeFor o.out c.in_ok-slip.slip.uses) (sym c.prepare.ensures.owned)
    (subst (λ (us : List Use). IsFreeFor c.args.owners.now.owned.out us) (sym uses) free)
