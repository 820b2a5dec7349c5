use Rattle.std.proofs.Common.{◌≡◌, ◌≤◌, take}
use Rattle.std.specs.Prelude.{sum_by}
use Rattle.ot_book.specs.Shelves.{statements_of, named_of}
use Rattle.ot_book.proofs.shelf.fitting.Given as goal

abbrev pub invariant-loop-place : goal.invariant-loop-place
invariant-loop-place l =
    (l.statements ≡ sum_by statements_of (take l.place l.kept)) × (l.statements ≤ 80000)
    × (l.named ≡ sum_by named_of (take l.place l.kept)) × (l.named ≤ 262144) × (l.place ≤ 8)
