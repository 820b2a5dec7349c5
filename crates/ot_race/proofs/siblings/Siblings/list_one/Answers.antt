use Rattle.std.proofs.Common.{◌∙◌, ◌++◌, sym, ap, append-nil}
use Rattle.std.specs.Prelude.{slice_get}
use Rattle.std.proofs.lemmas.Result.{on_ok_weaker}
use Rattle.ot_race.specs.Siblings.{seen_of_shelf}
use Rattle.ot_race.proofs.PlaceLemmas.{place_found}
use Rattle.ot_race.proofs.LaneLemmas.{not_found}
use Rattle.ot_race.proofs.siblings.Siblings.list_one.Goals as goal

pub returns-in-Some : goal.returns-in-Some
returns-in-Some c =
    let used = c.args.used in
    let shelf = c.in-Some.shelf.now in
    let at = ap (λ xs. slice_get xs used.cell.array) (sym c.deref.ensures.value)
    ∙ place_found c.deref.result.now used.cell.array shelf c.in-Some.ensures.lookup.0 c.in-Some.ensures.lookup.1 in
    on_ok_weaker c.list.result (λ e. e ∙ ap (λ o. c.args.listed.now.items ++ seen_of_shelf o used.cell.index c.args.parent used.mode) (sym at)) c.list.ensures

pub returns-in-None : goal.returns-in-None
returns-in-None c =
    let used = c.args.used in
    let none = ap (λ xs. slice_get xs used.cell.array) (sym c.deref.ensures.value) ∙ not_found c.deref.result.now used.cell.array c.in-None.ensures.lookup.3 in
    sym (append-nil c.args.listed.now.items) ∙ ap (λ o. c.args.listed.now.items ++ seen_of_shelf o used.cell.index c.args.parent used.mode) (sym none)
