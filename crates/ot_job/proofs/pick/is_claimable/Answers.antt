use Rattle.std.proofs.Common.{rules, ◌∙◌, Bool}
use Rattle.ot_job.proofs.Common.{is_let_go, is_ready, at}
use Rattle.ot_job.proofs.ClaimableLemmas.{at-here, all-three, zero-or, other-or}
use Rattle.ot_job.proofs.pick.is_claimable.Goals.{then-is_idle+then-i-eq0, then-is_idle+else-i-eq0, else-is_idle}
use Rattle.ot_job.proofs.pick.is_claimable.Goals as goal

pub returns-then-is_ready : goal.returns-then-is_ready
returns-then-is_ready c =
    let tasks = c.args.tasks.now in
    let here = at-here tasks c.args.i c.index-tasks-i.result c.requires.known c.index-tasks-i.is in
    let ready : Bool = is_ready (at tasks c.index-tasks-i.result.parent).children c.index-tasks-i.result.child in
    let free = is_let_go c.index-tasks-i.result in
    rw here (c.is_let_go.ensures ∙ elim c.if-is_idle.branch [
      | then-is_idle+then-i-eq0 w ↦ all-three _ _ free (search rules) (zero-or c.args.i ready (search rules))
      | then-is_idle+else-i-eq0 w ↦ all-three _ _ free (search rules) (other-or c.args.i ready (search rules) ∙ search rules)
      | else-is_idle w ↦ search rules
    ])

pub returns-else-is_ready : goal.returns-else-is_ready
returns-else-is_ready c =
    let tasks = c.args.tasks.now in
    let here = at-here tasks c.args.i c.index-tasks-i.result c.requires.known c.index-tasks-i.is in
    rw here (search rules)
