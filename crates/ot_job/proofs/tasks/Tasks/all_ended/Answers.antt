use Rattle.std.proofs.Common.{◌∙◌, ap, not, List, ◌==◌}
use Rattle.ot_job.proofs.Common.{Region, all_ended}
use Rattle.ot_job.proofs.CountingLemmas.{all-counted, passing-counted}
use Rattle.ot_job.proofs.tasks.Tasks.all_ended.Goals as goal

pub returns : goal.returns
returns c =
    let rs = c.self.inside.tasks.items in
    c.all_ended.ensures ∙ ap (λ n. n == 0) (c.self.invariant.unended ∙ passing-counted (λ r. not r.ended) rs) ∙ all-counted rs ∙ ap (λ (l : List Region). all_ended l) c.self.view_is
