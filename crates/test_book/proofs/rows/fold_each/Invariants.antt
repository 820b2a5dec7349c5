use Rattle.std.proofs.Common.{◌≡◌, []}
use Rattle.test_book.proofs.rows.fold_each.Given as goal

abbrev pub invariant-loop-index : goal.invariant-loop-index
invariant-loop-index l = l.groups ≡ []
