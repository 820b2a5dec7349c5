use Rattle.std.proofs.Common.{◌++◌, map, sym, ap, ◌∙◌}
use Rattle.std.proofs.lemmas.List.{append-nil}
use Rattle.ot_store.specs.Arrays.{cells_in}
use Rattle.ot_store.proofs.HeldLemmas.{cells_in-named}
use Rattle.ot_store.proofs.store.Store.cells.Goals as goal

pub returns : goal.returns
returns c =
    let lists = map (λ v. v.items) c.loop-cells.lists.items in
    let all = c.into_iter-cells-iterator.ensures.into_iter_gives ∙ c.values-cells-items.ensures.rest in
    c.new.ensures
    ∙ sym (append-nil lists)
    ∙ ap (λ rest. lists ++ map (λ v. v.items) rest) (sym c.in-None.ensures.steps.0)
    ∙ c.loop-cells.invariant
    ∙ ap (map (λ v. v.items)) all
    ∙ cells_in-named c.self.inside.arrays.entries
    ∙ ap cells_in c.self.view_is
