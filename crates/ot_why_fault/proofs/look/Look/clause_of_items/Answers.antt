use Rattle.std.proofs.Common.{rules}
use Rattle.ot_why_fault.specs.Walk.{shape_by, variables_by}
use Rattle.ot_why_fault.proofs.ClauseLemmas.{no_clause, no_clause_len}
use Rattle.ot_why_fault.proofs.look.Look.clause_of_items.Goals as goal

pub returns-clause-len : goal.returns-clause-len
returns-clause-len c =
    no_clause_len (shape_by c.args.self.now) c.args.profile (variables_by c.args.self.now) c.args.items.now (search rules) (search rules)

pub returns-clause-first : goal.returns-clause-first
returns-clause-first c =
    rw (no_clause (shape_by c.args.self.now) c.args.profile (variables_by c.args.self.now) c.args.items.now (search rules) (search rules), ← c.requires) (search rules)
