use Rattle.ot_why_fault.proofs.AfterLemmas.{after-append}
use Rattle.ot_why_fault.proofs.look.Look.folded.Goals as goal

pub returns-clause-first : goal.returns-clause-first
returns-clause-first c = rw (c.target.ensures.first, c.fold.ensures) (simp after-append)
