use Rattle.std.proofs.Common.{ap, sym, ◌∙◌}
use Rattle.ot_parts.specs.Steps.{Write}
use Rattle.ot_owner.specs.Lending.{value_at}
use Rattle.ot_job_task.specs.Deeds.{stack_behind, copies_changed}
use Rattle.ot_job_task.proofs.DeedLemmas.{wrote}
use Rattle.ot_job_task.proofs.assign.write.Goals as goal

pub returns-clause-stacked : goal.returns-clause-stacked
returns-clause-stacked c = sym (ap (stack_behind (Write c.args.cell) (value_at c.args.lent.now)) c.pop-number.ensures.taken)

pub returns-clause-changed : goal.returns-clause-changed
returns-clause-changed c = λ cell.
    wrote (value_at c.args.lent.now) (value_at c.set.new.self) c.args.cell (λ _. c.pop-number.result) c.in-Some.field-0
    (sym c.value_near.ensures.value ∙ c.in-Some.is) (c.set.ensures.found) c.set.ensures.others cell
    ∙ sym (ap (λ ns. copies_changed (Write c.args.cell) ns (value_at c.args.lent.now) cell) c.pop-number.ensures.taken)
