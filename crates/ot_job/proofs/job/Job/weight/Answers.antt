use Rattle.std.proofs.Common.{◌∙◌, ap, arith}
use Rattle.ot_job.proofs.Common.{size, Live, weight_of}
use Rattle.ot_job.proofs.job.Job.weight.Goals as goal

pub returns-clause-is : goal.returns-clause-is
returns-clause-is c =
    c.weigh_tasks.ensures ∙ ap (λ tasks. weight_of tasks) c.all.ensures ∙ ap (λ (l : Live). weight_of l.regions) c.self.view_is

pub returns-clause-light : goal.returns-clause-light
returns-clause-light c =
    let is = c.weigh_tasks.ensures ∙ ap (λ tasks. weight_of tasks) c.all.ensures in
    omega (arith, is, c.self.invariant.light, ap (λ (l : Live). size l.program.body) c.self.view_is)
