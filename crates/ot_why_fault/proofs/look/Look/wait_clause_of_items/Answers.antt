use Rattle.std.proofs.Common.{rules}
use Rattle.ot_why_fault.specs.Walk.{shape_by, variables_by}
use Rattle.ot_why_fault.proofs.FormLemmas.{no_wait_clause_but_two}
use Rattle.ot_why_fault.proofs.ClauseLemmas.{wait_clause_section-other}
use Rattle.ot_why_fault.proofs.look.Look.wait_clause_of_items.Goals as goal

pub returns-then-items-ne2-clause-len : goal.returns-then-items-ne2-clause-len
returns-then-items-ne2-clause-len c =
    rw (wait_clause_section-other (shape_by c.args.self.now) (variables_by c.args.self.now) c.args.items.now (search rules)) c.cells_of_items.ensures

pub returns-then-items-ne2-clause-first : goal.returns-then-items-ne2-clause-first
returns-then-items-ne2-clause-first c =
    rw (no_wait_clause_but_two (shape_by c.args.self.now) (variables_by c.args.self.now) c.args.items.now (search rules), ← c.requires) (search rules)
