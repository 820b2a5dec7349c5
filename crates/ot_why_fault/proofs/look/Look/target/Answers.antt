use Rattle.ot_why_fault.proofs.AfterLemmas.{after-append}
use Rattle.ot_why_fault.proofs.look.Look.target.Goals as goal

pub returns-clause-first : goal.returns-clause-first
returns-clause-first c = rw (c.expression.ensures.first, c.cell.ensures) (simp after-append)
