use Rattle.std.proofs.Common.{◌≡◌, ◌&&◌, ℕ, not, take}
use Rattle.std.specs.List.{list_any}
use Rattle.ot_sets.specs.Sets.{has}
use Rattle.ot_check.specs.walk.Rows.{awaited_as, users_of_block}
use Rattle.ot_check.proofs.users.Row.take_awaited.Given as goal

abbrev pub invariant-loop-block : goal.invariant-loop-block
invariant-loop-block l =
    (k : ℕ) → has l.tasks k ≡ (has l.fn.tasks k && not (list_any (λ block. list_any (awaited_as l.mode k) (users_of_block block)) (take l.block-index l.block-items)))
