use Rattle.ot_program.proofs.Seen.{array_seen}
use Rattle.ot_why_mixed.proofs.clause.clause_of.Goals as goal

pub returns-in-Array-clause-row : goal.returns-in-Array-clause-row
returns-in-Array-clause-row c = rw (array_seen _ _ _ c.in-Array.is c.deref.ensures.value) c.clause_of_items.ensures.row

pub returns-in-Array-clause-fits : goal.returns-in-Array-clause-fits
returns-in-Array-clause-fits c = rw (array_seen _ _ _ c.in-Array.is c.deref.ensures.value) c.clause_of_items.ensures.fits
