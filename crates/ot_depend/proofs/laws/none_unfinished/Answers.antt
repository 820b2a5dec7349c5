use Rattle.ot_depend.proofs.CountLemmas.{none_unfinished, none_unfinished_in}
use Rattle.ot_depend.proofs.laws.none_unfinished.Goals as goal

pub returns-clause-all : goal.returns-clause-all
returns-clause-all c = none_unfinished

pub returns-clause-group : goal.returns-clause-group
returns-clause-group c = none_unfinished_in
