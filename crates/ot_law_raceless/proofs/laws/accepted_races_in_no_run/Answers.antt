use Rattle.ot_model.specs.Cells.{cell_of}
use Rattle.ot_model.specs.Tree.{val}
use Rattle.ot_race_order.specs.declared.order.Order.TheVariants.{OfLanguage}
use Rattle.ot_law_raceless.proofs.laws.accepted_races_in_no_run.Goals as goal

pub returns : goal.returns
returns c = λ body cells named nowhere cell i j race.
    c.accepted_races_on_no_way.ensures body nowhere (λ s e. val (cell_of s.cells) e) cells cell i j
    (c.runs_are_ways.ensures OfLanguage body cells named cell i j race)
