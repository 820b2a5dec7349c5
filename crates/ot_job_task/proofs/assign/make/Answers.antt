use Rattle.std.proofs.Common.{ap, sym, ◌∙◌}
use Rattle.ot_parts.specs.Steps.{deed_of}
use Rattle.ot_owner.specs.Lending.{value_at}
use Rattle.ot_job_task.specs.Deeds.{stack_behind}
use Rattle.ot_job_task.proofs.assign.make.Goals as goal

pub returns-in-Op-clause-stacked : goal.returns-in-Op-clause-stacked
returns-in-Op-clause-stacked c =
    let look = value_at c.args.lent.now in
    c.join.ensures look ∙ ap (λ s. stack_behind (deed_of s) look c.args.stack.now) (sym c.in-Op.is)

pub returns-in-Swapped-clause-stacked : goal.returns-in-Swapped-clause-stacked
returns-in-Swapped-clause-stacked c =
    let look = value_at c.args.lent.now in
    c.join_back.ensures look ∙ ap (λ s. stack_behind (deed_of s) look c.args.stack.now) (sym c.in-Swapped.is)
