use Rattle.ot_why_fault.proofs.AfterLemmas.{after-append}
use Rattle.ot_why_fault.proofs.why.First.past_limits.Goals as goal

pub returns : goal.returns
returns c =
    rw (c.unless.ensures, c.more_than-4.ensures, c.more_than-3.ensures, c.more_than-2.ensures, c.from.ensures, c.more_than.ensures) (simp after-append)
