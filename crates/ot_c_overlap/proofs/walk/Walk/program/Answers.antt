use Rattle.std.proofs.Common.{◌∙◌, ap, []}
use Rattle.std.proofs.lemmas.Result.{on_ok_weaker}
use Rattle.serde_json.specs.View.{view}
use Rattle.ot_program.specs.Copies.{copies}
use Rattle.ot_c_overlap.specs.Items.{items_met_in}
use Rattle.ot_c_overlap.specs.View.{ground_by}
use Rattle.ot_c_overlap.proofs.walk.Walk.program.Goals as goal

pub returns : goal.returns
returns c =
    on_ok_weaker c.body.result
    (λ e. e ∙ ap (items_met_in (ground_by c.args.self.now) 0 (copies c.args.self.now.profile 1 (view c.args.body.now) [])) (c.in_ok-enter.ensures c.args.self.now.profile 0))
    (c.body.ensures 1)
