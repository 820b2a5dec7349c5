use Rattle.ot_why_fault.proofs.AfterLemmas.{after-append}
use Rattle.ot_why_fault.proofs.look.Look.group_by.Goals as goal

pub returns-clause-first : goal.returns-clause-first
returns-clause-first c = rw (c.group.ensures.first, c.fold.ensures) (simp after-append)
