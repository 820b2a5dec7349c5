use Rattle.std.proofs.Common.{refl, subst}
use Rattle.ot_job.proofs.Common.{Live}
use Rattle.ot_job.specs.Dealings.{IsOf}
use Rattle.ot_job.proofs.job.Job.into_spec.Goals as goal

pub returns : goal.returns
returns c = subst (λ (l : Live). IsOf c.self.inside.spec l) c.self.view_is (record { program = refl; before = refl })
