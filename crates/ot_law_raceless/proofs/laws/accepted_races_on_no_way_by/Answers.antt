use Rattle.ot_race_ways.specs.Ways.{way_by}
use Rattle.ot_law_raceless.proofs.laws.accepted_races_on_no_way_by.Goals as goal

pub returns : goal.returns
returns c = λ order body alike accepted condition cells cell i j race.
    c.accepted_races_on_no_way.ensures body accepted condition cells cell i j
    (c.alike_races_in_language.ensures order body alike (way_by condition) cells cell i j race)
