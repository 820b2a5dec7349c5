use Rattle.std.proofs.Common.{◌≡◌, map, None}
use Rattle.std.specs.Prelude.{string_bytes, take}
use Rattle.std.specs.List.{All}
use Rattle.ot_serve.specs.Starting.{newcomer}
use Rattle.ot_serve.proofs.socket.empty_books.Given as goal

-- each name so far has a new book, which is closed
abbrev pub invariant-loop-name : goal.invariant-loop-name
invariant-loop-name l =
    (map (λ book. book.name) l.books.items ≡ map string_bytes (take l.name-index l.names)) × All (λ book. book ≡ newcomer book.name) l.books.items
    × All (λ book. book.pending ≡ None) l.books.items
