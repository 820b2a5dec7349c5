use Rattle.std.proofs.Common.{◌≡◌, refl, sym, ap, subst, ◌∙◌, IsSome, OnOk}
use Rattle.std.specs.Prelude.{unwrap_or}
use Rattle.ot_depend.specs.Places.{mark_of, place_from}
use Rattle.ot_depend.proofs.PageLemmas.{at_set, at_changed}
use Rattle.ot_depend.proofs.places.Places.make.Goals as goal

pub returns-clause-same : goal.returns-clause-same
returns-clause-same c other =
    ap place_from (
    at_changed mark_of c.reach.new.self.shelves.items c.args.cell.array c.index_mut.result.now c.make.new.self c.in_ok-reach.ensures.reached c.index_mut.ensures.value
    (λ before after. unwrap_or after 0 ≡ unwrap_or before 0) (λ o. refl) c.make.ensures.same other.array other.index
    ∙ ap (λ o. unwrap_or o 0) (c.reach.ensures.same other))

pub returns-clause-made : goal.returns-clause-made
returns-clause-made c =
    subst (λ o. OnOk c.make.result (IsSome o)) (sym (at_set mark_of c.reach.new.self.shelves.items c.args.cell.array c.make.new.self c.in_ok-reach.ensures.reached c.args.cell.index))
    c.make.ensures.made
