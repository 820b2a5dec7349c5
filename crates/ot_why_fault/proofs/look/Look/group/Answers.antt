use Rattle.ot_why_fault.proofs.AfterLemmas.{after-append}
use Rattle.ot_why_fault.proofs.look.Look.group.Goals as goal

pub returns-clause-first : goal.returns-clause-first
returns-clause-first c = rw (c.nested.ensures, c.list.ensures, c.sections-cells.ensures.first) (simp after-append)
