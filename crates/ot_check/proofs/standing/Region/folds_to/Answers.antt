use Rattle.std.proofs.Common.{Some, None, ◌∙◌}
use Rattle.ot_check.proofs.DeclaredLemmas.{folds-told}
use Rattle.ot_check.proofs.standing.Region.folds_to.Goals as goal

pub returns-in-None-mode : goal.returns-in-None-mode
returns-in-None-mode c =
    folds-told c.args.self.now.own c.in-Some.decl c.args.op c.args.cell None c.mode.result c.in-Some.is c.mode.ensures.ordered c.mode.ensures.mode c.in-None-mode.is

pub returns-in-Some-mode : goal.returns-in-Some-mode
returns-in-Some-mode c =
    c.folds_by.ensures
    ∙ folds-told c.args.self.now.own c.in-Some.decl c.args.op c.args.cell (Some c.in-Some-mode.mode) c.mode.result c.in-Some.is c.mode.ensures.ordered
    c.mode.ensures.mode c.in-Some-mode.is
