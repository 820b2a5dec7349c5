use Rattle.ot_c_clauses.proofs.OwnLemmas.{unmarked}
use Rattle.ot_c_clauses.proofs.own.Owns.new.Goals as goal

pub returns : goal.returns
returns c = unmarked c.new.result c.new.ensures.empty c.args.cells.items
