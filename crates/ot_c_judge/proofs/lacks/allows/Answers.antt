use Rattle.std.proofs.Common.{Some, None, option_map, ap, ◌∙◌}
use Rattle.ot_check.proofs.Cited.{allows-told}
use Rattle.ot_c_judge.proofs.lacks.allows.Goals as goal

pub returns-in-None-mode : goal.returns-in-None-mode
returns-in-None-mode c =
    allows-told (option_map (λ d. d.now) c.args.own) c.in-Some.decl.now c.args.used None c.mode.result (ap (λ own. option_map (λ d. d.now) own) c.in-Some.is)
    c.mode.ensures.ordered c.mode.ensures.mode c.in-None-mode.is

pub returns-in-Some-mode : goal.returns-in-Some-mode
returns-in-Some-mode c =
    c.covers.ensures
    ∙ allows-told (option_map (λ d. d.now) c.args.own) c.in-Some.decl.now c.args.used (Some c.in-Some-mode.mode) c.mode.result
    (ap (λ own. option_map (λ d. d.now) own) c.in-Some.is) c.mode.ensures.ordered c.mode.ensures.mode c.in-Some-mode.is
