use Rattle.ot_law_raceless.proofs.WalkLemmas.{fine_races_on_no_way}
use Rattle.ot_law_raceless.proofs.laws.accepted_races_on_no_way.Goals as goal

pub returns : goal.returns
returns c = λ body nowhere. fine_races_on_no_way body (c.disciplined_is_fine.ensures body nowhere)
