use Rattle.std.proofs.Common.{arith, ap, length, map, subst, sym}
use Rattle.std.specs.Prelude.{string_bytes}
use Rattle.std.proofs.lemmas.List.{length-map}
use Rattle.ot_book.specs.declared.book.Book.{Book}
use Rattle.ot_front.specs.Desks.{AreDistinct}
use Rattle.ot_serve.proofs.Distinct.{AreDistinct_of_tenants}
use Rattle.ot_serve.proofs.socket.lay_desk.Goals as goal

pub new-requires-clause-few : goal.new-requires-clause-few
new-requires-clause-few c =
    let books = c.in_ok-empty_books.field-0 in
    let same = ap length c.in_ok-empty_books.ensures.names in
    let of_books = length-map books.items (λ (book : Book). book.name) in
    let of_names = length-map c.args.names.now string_bytes in
    omega (arith, same, of_books, of_names, books.ok.0, c.requires.few)

pub new-requires-clause-distinct : goal.new-requires-clause-distinct
new-requires-clause-distinct c =
    subst AreDistinct (sym c.in_ok-empty_books.ensures.names)
    (AreDistinct_of_tenants (map string_bytes c.args.names.now) c.requires.names)
