use Rattle.std.proofs.Common.{◌≡◌, map, take}
use Rattle.std.specs.Prelude.{string_bytes}
use Rattle.ot_front.proofs.desk.names_of.Given as goal

abbrev pub invariant-loop-book : goal.invariant-loop-book
invariant-loop-book l = map string_bytes l.names.items ≡ map (λ book. book.name) (take l.book-index l.books)
