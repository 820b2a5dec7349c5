use Rattle.std.proofs.Common.{◌≡◌, ◌&&◌, ℕ, not, take}
use Rattle.std.specs.List.{list_any}
use Rattle.ot_sets.specs.Sets.{has}
use Rattle.ot_check.specs.walk.States.{users_at}
use Rattle.ot_check.specs.walk.Rows.{awaited_as}
use Rattle.ot_check.proofs.tasks.Tasks.take_awaited.Given as goal

abbrev pub invariant-loop-used : goal.invariant-loop-used
invariant-loop-used l =
    (k : ℕ) → has l.numbers k ≡ (has l.fn.numbers k && not (list_any (λ u. list_any (awaited_as u.mode k) (users_at l.self.users u.cell)) (take l.used-index l.used-items)))
