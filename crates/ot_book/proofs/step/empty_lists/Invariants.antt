use Rattle.std.proofs.Common.{◌≡◌, map, take, length}
use Rattle.ot_book.proofs.step.empty_lists.Given as goal

abbrev pub invariant-loop-section : goal.invariant-loop-section
invariant-loop-section l = map (λ r. length r.items) l.lists.items ≡ map (λ s. s.len) (take l.section-index l.sections.items)
