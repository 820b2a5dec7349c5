use Rattle.std.proofs.Common.{◌∙◌, sym, ap}
use Rattle.std.specs.List.{list_all}
use Rattle.std.proofs.lemmas.List.Folds.{list_all-map}
use Rattle.ot_c_clauses.specs.Cells.{under_in}
use Rattle.ot_c_clauses.specs.declared.own.Own.{Own}
use Rattle.ot_c_clauses.proofs.own.Owns.are_named.Goals as goal

pub returns : goal.returns
returns c =
    c.are_named.ensures ∙ ap (list_all (λ (o : Own). (under_in c.self.inside.named o).named)) c.deref.ensures.value
    ∙ sym (list_all-map (λ (o : Own). o.named) (under_in c.self.inside.named) c.self.inside.cells.items)
    ∙ ap (list_all (λ (o : Own). o.named)) c.self.view_is
