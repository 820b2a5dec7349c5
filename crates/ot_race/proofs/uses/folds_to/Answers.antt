use Rattle.std.proofs.Common.{◌∙◌, sym, ap}
use Rattle.ot_model.proofs.DeclaredLemmas.{by_mode, any-by_mode}
use Rattle.ot_check.specs.Offences.{folds_by}
use Rattle.ot_race.proofs.uses.folds_to.Goals as goal

pub returns-in-Some : goal.returns-in-Some
returns-in-Some c =
    let test = folds_by c.args.op in
    c.folds_by.ensures
    ∙ sym (any-by_mode test c.args.decl.now c.args.cell c.mode.ensures.ordered ∙ ap (by_mode test) (sym c.mode.ensures.mode ∙ c.in-Some.is))

pub returns-in-None : goal.returns-in-None
returns-in-None c =
    let test = folds_by c.args.op in
    sym (any-by_mode test c.args.decl.now c.args.cell c.mode.ensures.ordered ∙ ap (by_mode test) (sym c.mode.ensures.mode ∙ c.in-None.is))
