use Rattle.std.proofs.Common.{◌==◌, ◌∙◌, not, sym, ap}
use Rattle.ot_depend.specs.Siblings.{is_unfinished}
use Rattle.ot_job_task.specs.Regions.{is_held}
use Rattle.ot_job_task.specs.RegionView.{waiting_of}
use Rattle.ot_job_task.specs.declared.waiting.Waiting.{Waiting}
use Rattle.ot_job_task.proofs.WaitingLemmas.{held-none, held-all, none-counted}
use Rattle.ot_job_task.proofs.waiting.Waiting.lets_go.Goals as goal

pub returns-in-Nowhere : goal.returns-in-Nowhere
returns-in-Nowhere c =
    let children = c.args.children.now in
    sym (ap (λ (w : Waiting). not (is_held (waiting_of w) children)) c.in-Nowhere.is ∙ ap not (held-none children))

pub returns-in-ForAll : goal.returns-in-ForAll
returns-in-ForAll c =
    let children = c.args.children.now in
    ap (λ n. n == 0) c.unfinished.ensures ∙ none-counted is_unfinished children
    ∙ sym (ap (λ (w : Waiting). not (is_held (waiting_of w) children)) c.in-ForAll.is ∙ ap not (held-all children))
