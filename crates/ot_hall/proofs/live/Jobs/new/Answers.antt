use Rattle.std.proofs.Common.{ap, ◌∙◌, replicate, None, arith}
use Rattle.ot_hall.specs.Index.{job_at}
use Rattle.ot_hall.proofs.IndexLemmas.{map-replicate, indexes-none}
use Rattle.ot_hall.proofs.live.Jobs.new.Goals as goal

pub invariant_of-result : goal.invariant_of-result
invariant_of-result c = rw c.loop.invariant (indexes-none _ _)

pub returns : goal.returns
returns c = rw c.loop.invariant (map-replicate (job_at c.new.result) None _ ∙ ap (λ n. replicate n None) (omega (arith, c.loop-test.false, c.loop.auto.counter-end)))
