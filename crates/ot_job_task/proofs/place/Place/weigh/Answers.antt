use Rattle.std.proofs.Common.{rules, ◌<◌, arith, length}
use Rattle.std.proofs.lemmas.Grind.{common_steps}
use Rattle.ot_job_task.proofs.GroupLemmas.{some-behind}
use Rattle.ot_job_task.proofs.place.Place.weigh.Goals.{then-out, else-out}
use Rattle.ot_job_task.proofs.place.Place.weigh.Goals as goal

pub overflow_sub-result : goal.overflow_sub-result
overflow_sub-result c =
    let some : 0 < length c.args.self.now.groups.items = elim c.if-out.branch [
      | then-out w ↦ search rules
      | else-out w ↦ grind (arith, common_steps, w.is_empty.ensures, w.value-is, c.if-is_empty.false, c.args.self.now.groups.ok)
    ] in
    omega (arith, some-behind c.args.self.now.groups.items some, c.weigh_behind-behind.ensures)
