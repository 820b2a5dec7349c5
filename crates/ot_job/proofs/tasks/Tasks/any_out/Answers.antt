use Rattle.std.proofs.Common.{◌∙◌, ap, not, List, ◌==◌, is_some}
use Rattle.ot_job.proofs.Common.{Region, any_out}
use Rattle.ot_job.proofs.CountingLemmas.{out-any, passing-counted}
use Rattle.ot_job.proofs.tasks.Tasks.any_out.Goals as goal

pub returns : goal.returns
returns c =
    let rs = c.self.inside.tasks.items in
    c.any_out.ensures ∙ ap (λ n. not (n == 0)) (c.self.invariant.out ∙ passing-counted (λ r. is_some r.running) rs) ∙ out-any rs ∙ ap (λ (l : List Region). any_out l) c.self.view_is
