use Rattle.std.proofs.Common.{◌&&◌, not, sym, ap, ◌∙◌}
use Rattle.std.specs.List.{list_any}
use Rattle.ot_check.specs.Offences.{awaits}
use Rattle.ot_sets.specs.Sets.{has}
use Rattle.ot_check.specs.walk.States.{users_at}
use Rattle.ot_check.specs.walk.Rows.{awaited_as}
use Rattle.ot_check.proofs.Bits.{and_false}
use Rattle.ot_check.proofs.RegionLemmas.{behind-wait}
use Rattle.ot_check.proofs.TaskLemmas.{awaited-told}
use Rattle.ot_check.proofs.standing.Standing.await_children.Goals as goal

pub returns-in-None-clause-behind : goal.returns-in-None-clause-behind
returns-in-None-clause-behind c = λ own opened children decls h.
    let region = c.args.self.now.region in
    behind-wait own opened children decls c.args.self.now c.args.wait.now c.clear.new.self h
    (λ k d is. c.clear.ensures.none k ∙ sym (ap (λ w. has region.unawaited k && not (awaits w d)) c.in-None.is ∙ and_false (has region.unawaited k)))
    (λ k l. c.clear.ensures.none k)

pub returns-in-Some-clause-behind : goal.returns-in-Some-clause-behind
returns-in-Some-clause-behind c = λ own opened children decls h.
    let region = c.args.self.now.region in
    let users = c.args.self.now.tasks.users in
    let uses = c.in-Some.decl in
    behind-wait own opened children decls c.args.self.now c.args.wait.now c.take_awaited.new.numbers h
    (λ k d is. c.take_awaited.ensures k ∙ ap (λ b. has region.unawaited k && not b) (awaited-told users decls h.known.told k d is uses)
    ∙ sym (ap (λ w. has region.unawaited k && not (awaits w d)) c.in-Some.is))
    (λ k l. c.take_awaited.ensures k
    ∙ ap (λ b. b && not (list_any (λ u. list_any (awaited_as u.mode k) (users_at users u.cell)) uses)) (h.passed k l))
