use Rattle.std.proofs.Common.{ap}
use Rattle.ot_why_fault.specs.declared.look.Measure.{Measure}
use Rattle.ot_why_fault.proofs.AfterLemmas.{after-append}
use Rattle.ot_why_fault.proofs.look.Look.expression.Goals as goal

pub returns-clause-first : goal.returns-clause-first
returns-clause-first c = rw (c.deep.ensures _ (ap (λ (m : Measure). m.depth) c.value-measure.ensures.measure), c.value-measure.ensures.first) (simp after-append)
