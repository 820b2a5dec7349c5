use Rattle.ot_race_order.proofs.AlikeLemmas.{alike_races}
use Rattle.ot_race_order.proofs.laws.alike_races_in_language.Goals as goal

pub returns : goal.returns
returns c = alike_races
