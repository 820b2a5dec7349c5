use Rattle.std.proofs.Common.{◌==◌, ◌||◌, ap, ◌∙◌}
use Rattle.ot_sets.specs.Sets.{has}
use Rattle.ot_check.proofs.WalkLemmas.{on_ok}
use Rattle.ot_check.proofs.TaskLemmas.{are-added}
use Rattle.ot_check.proofs.standing.Standing.end_task.Goals as goal

pub returns-clause-child : goal.returns-clause-child
returns-clause-child c =
    on_ok c.insert.result _ _ (λ inserted k. inserted k ∙ ap (λ n. has c.args.outer.unawaited k || (k == n)) c.in_ok-number.ensures.number)
    c.insert.ensures.put

pub returns-clause-known : goal.returns-clause-known
returns-clause-known c =
    on_ok c.insert.result _ _ (λ inserted decls are.
    are-added c.args.self.now.tasks c.add.new.self decls c.args.decl.now are c.in_ok-number.ensures.passed c.in_ok-number.ensures.told) c.insert.ensures.put
