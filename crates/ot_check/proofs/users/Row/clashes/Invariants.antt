use Rattle.std.proofs.Common.{◌≡◌, false, take}
use Rattle.std.specs.List.{list_any}
use Rattle.ot_sets.specs.Sets.{words_of}
use Rattle.ot_check.specs.walk.Rows.{users_of_block}
use Rattle.ot_check.proofs.ClashLemmas.{clashing}
use Rattle.ot_check.proofs.users.Row.clashes.Given as goal

abbrev pub invariant-loop-block : goal.invariant-loop-block
invariant-loop-block l =
    list_any (λ block. list_any (clashing (words_of l.tasks) l.mode) (users_of_block block)) (take l.block-index l.block-items) ≡ false
