use Rattle.std.proofs.Common.{◌≡◌, map, take, length}
use Rattle.ot_book.specs.Answers.{numbers_shown}
use Rattle.ot_book.proofs.book.show_all.Given as goal

abbrev pub invariant-loop-i : goal.invariant-loop-i
invariant-loop-i l =
    (take l.i (map (λ r. r.items) l.lists.items) ≡ numbers_shown (take l.i l.sections.items) l.cells)
    × (map (λ r. length r.items) l.lists.items ≡ map (λ s. s.len) l.sections.items)
