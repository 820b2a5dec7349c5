use Rattle.std.proofs.Common.{◌≡◌, take, map}
use Rattle.ot_book.proofs.told.copy_shows.Given as goal

abbrev pub invariant-loop-show : goal.invariant-loop-show
invariant-loop-show l = map (λ s. s.items) l.copy.items ≡ map (λ s. s.items) (take l.show-index l.show-items)
