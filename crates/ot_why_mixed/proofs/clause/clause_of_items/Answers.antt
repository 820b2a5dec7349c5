use Rattle.std.proofs.Common.{rules}
use Rattle.ot_why_place.specs.Spots.{trail_bindings}
use Rattle.ot_why_mixed.proofs.ClauseLemmas.{clause_wrong}
use Rattle.ot_why_mixed.proofs.clause.clause_of_items.Goals as goal

pub returns-clause-row : goal.returns-clause-row
returns-clause-row c shape profile arrays none =
    absurd (clause_wrong shape profile (trail_bindings c.args.trail.now) c.args.items.now (search rules) (search rules) none)

pub returns-clause-fits : goal.returns-clause-fits
returns-clause-fits c shape profile arrays none =
    absurd (clause_wrong shape profile (trail_bindings c.args.trail.now) c.args.items.now (search rules) (search rules) none)
