use Rattle.ot_race_ways.proofs.StraightLemmas.{no_way_races}
use Rattle.ot_race_ways.proofs.laws.straight_ways_are_runs.Goals as goal

pub returns : goal.returns
returns c = λ order body cells straight none. no_way_races order body cells straight none
