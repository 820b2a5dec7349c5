use Rattle.std.proofs.Common.{◌∙◌, sym}
use Rattle.ot_pool.proofs.ShareLemmas.{sum_by-ones}
use Rattle.ot_pool.proofs.crew.join_all.Goals as goal

pub returns-clause-parts : goal.returns-clause-parts
returns-clause-parts g c = sum_by-ones (λ s. s.parts) c.loop-thread.shares.items c.loop-thread.invariant.1 ∙ sym c.loop-thread.shares.ok.0
