use Rattle.ot_model.specs.Cells.{lengths}
use Rattle.ot_c_judge.proofs.finding.find_in_refused.Goals as goal

pub find_on_ways-requires : goal.find_on_ways-requires
find_on_ways-requires c = (lengths c.args.cells, c.requires)
