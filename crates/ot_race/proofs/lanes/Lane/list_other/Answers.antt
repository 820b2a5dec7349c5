use Rattle.std.proofs.Common.{◌∙◌, ◌++◌, sym, ap, append-nil}
use Rattle.std.proofs.lemmas.Result.{on_ok_weaker}
use Rattle.ot_race.specs.Siblings.{seen_of}
use Rattle.ot_race.proofs.lanes.Lane.list_other.Goals as goal

pub returns-in-Some : goal.returns-in-Some
returns-in-Some c =
    on_ok_weaker c.list.result (λ e. e ∙ ap (λ r. c.args.listed.now.items ++ seen_of r c.args.mode) c.in-Some.ensures.value) c.list.ensures

pub returns-in-None : goal.returns-in-None
returns-in-None c = sym (append-nil c.args.listed.now.items) ∙ ap (λ r. c.args.listed.now.items ++ seen_of r c.args.mode) c.in-None.ensures.value
