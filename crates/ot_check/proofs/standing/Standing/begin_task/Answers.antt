use Rattle.std.proofs.Common.{Some, ap, ◌∙◌}
use Rattle.ot_sets.specs.Sets.{has}
use Rattle.ot_check.specs.walk.States.{is_open}
use Rattle.ot_check.proofs.standing.Standing.begin_task.Goals as goal

pub returns-clause-begun : goal.returns-clause-begun
returns-clause-begun c = record {
  declares = ap (λ r. r.own) c.replace.ensures.after ∙ ap Some c.in_ok-copy.ensures;
  closed = λ o cell. ap (λ r. is_open r.opened o cell) c.replace.ensures.after ∙ c.new.ensures o cell;
  none = λ k. ap (λ r. has r.unawaited k) c.replace.ensures.after ∙ c.new-2.ensures.none k;
}
