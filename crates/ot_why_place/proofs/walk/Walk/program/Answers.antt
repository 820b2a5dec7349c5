use Rattle.std.proofs.Common.{◌∙◌, ◌∷◌, [], sym, ap}
use Rattle.serde_json.specs.View.{view}
use Rattle.ot_program.specs.Copies.{ProgramText}
use Rattle.ot_why_place.specs.Spots.{spot}
use Rattle.ot_why_place.specs.Seeking.{step_by, counts_by}
use Rattle.ot_why_place.proofs.BodyLemmas.{seen_as, one_passes, one_ends}
use Rattle.ot_why_place.proofs.walk.Walk.program.Goals as goal

pub returns-in-Skipped : goal.returns-in-Skipped
returns-in-Skipped c =
    seen_as c.body.result _ _
    (one_passes (counts_by c.args.self.now.which) (spot (1 ∷ []) (record { level = 0; variables = []; text = ProgramText (view c.args.shows.now) (view c.args.body.now) })) _ _ _ (sym (ap step_by c.in-Skipped.is) ∙ c.in_ok-left.ensures 0))
    (c.body.ensures 1)

pub returns-in-Met : goal.returns-in-Met
returns-in-Met c =
    one_ends (counts_by c.args.self.now.which) (spot (1 ∷ []) (record { level = 0; variables = []; text = ProgramText (view c.args.shows.now) (view c.args.body.now) })) _ _ _ _ (sym (ap step_by c.in-Met.is) ∙ c.in_ok-left.ensures 0)
