use Rattle.std.specs.Prelude.{None}
use Rattle.ot_model.specs.Cells.{lengths}
use Rattle.ot_race.specs.Events.{beginning}
use Rattle.ot_race_order.proofs.LikeLemmas.{race_there, like_ordered}
use Rattle.ot_race_ways.proofs.RunLemmas.{like_all}
use Rattle.ot_race_ways.proofs.laws.runs_are_ways.Goals as goal

pub returns : goal.returns
returns c = λ order body cells named cell i j race.
    race_there _ _ cell i j (like_ordered order _ _ (like_all (lengths cells) None 0 1 body (beginning cells) named)) race
