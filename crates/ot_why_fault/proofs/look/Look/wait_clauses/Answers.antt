use Rattle.std.proofs.Common.{refl}
use Rattle.ot_program.proofs.Seen.{array_seen}
use Rattle.ot_why_fault.proofs.AfterLemmas.{after-append}
use Rattle.ot_why_fault.proofs.LoopLemmas.{no_items}
use Rattle.ot_why_fault.proofs.look.Look.wait_clauses.Goals as goal

pub returns-in-Array-clause-cells : goal.returns-in-Array-clause-cells
returns-in-Array-clause-cells c =
    rw (array_seen _ _ _ c.in-Array.is c.deref.ensures.value) c.each_wait_clause.ensures.cells

pub returns-in-Array-clause-first : goal.returns-in-Array-clause-first
returns-in-Array-clause-first c =
    rw (c.each_wait_clause.ensures.first, c.list.ensures, array_seen _ _ _ c.in-Array.is c.deref.ensures.value) (simp after-append)

pub returns-in_default-clause-cells : goal.returns-in_default-clause-cells
returns-in_default-clause-cells c = rw (no_items _ c.in_default.not-Array) refl

pub returns-in_default-clause-first : goal.returns-in_default-clause-first
returns-in_default-clause-first c = rw (c.list.ensures, no_items _ c.in_default.not-Array) (simp after-append)
