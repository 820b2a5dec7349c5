use Rattle.ot_why_fault.proofs.AfterLemmas.{after-append}
use Rattle.ot_why_fault.proofs.look.Look.range.Goals as goal

pub returns : goal.returns
returns c = rw (c.shallow-2.ensures, c.shallow.ensures, c.nested.ensures, c.list.ensures, c.size-2.ensures.first, c.size.ensures.first, c.name.ensures) (simp after-append)
