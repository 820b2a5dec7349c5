use Rattle.std.proofs.Common.{ap, sym, ◌∙◌}
use Rattle.std.specs.Prelude.{Some}
use Rattle.ot_model.specs.Joining.{join_by}
use Rattle.ot_parts.specs.Steps.{WriteJoined}
use Rattle.ot_owner.specs.Lending.{value_at}
use Rattle.ot_job_task.specs.Deeds.{stack_behind, copies_changed}
use Rattle.ot_job_task.proofs.DeedLemmas.{wrote}
use Rattle.ot_job_task.proofs.assign.write_joined.Goals as goal

pub returns-clause-stacked : goal.returns-clause-stacked
returns-clause-stacked c = sym (ap (stack_behind (WriteJoined c.args.op c.args.cell) (value_at c.args.lent.now)) c.pop-number.ensures.taken)

pub returns-clause-changed : goal.returns-clause-changed
returns-clause-changed c = λ cell.
    wrote (value_at c.args.lent.now) (value_at c.set.new.self) c.args.cell (λ m. join_by c.args.op m c.pop-number.result) c.in-Some.before
    (sym c.value_near.ensures.value ∙ c.in-Some.is) (c.set.ensures.found ∙ ap Some c.join.ensures) c.set.ensures.others cell
    ∙ sym (ap (λ ns. copies_changed (WriteJoined c.args.op c.args.cell) ns (value_at c.args.lent.now) cell) c.pop-number.ensures.taken)
