use Rattle.std.proofs.Common.{◌≡◌, ap, sym, ◌∙◌, arith, get_or, length, ◌<◌}
use Rattle.std.proofs.lemmas.Bool.{ltb-true}
use Rattle.ot_book.specs.Books.{Register, number_at, reply_at}
use Rattle.ot_book.proofs.OpenLemmas.{reply_at-entry}
use Rattle.ot_book.proofs.book.Book.reply_at.Goals as goal

pub number_at-requires : goal.number_at-requires
number_at-requires c =
    let below = ltb-true c.args.place (length c.deref.result.now) (sym c.in_ok-entry.ensures.lookup.0) in
    omega (arith, below, c.deref.ensures.len, c.self.inside.log.ok, c.self.inside.log.small)

pub returns : goal.returns
returns c =
    let place = c.args.place in
    let log = c.self.inside.log in
    let entry = c.in_ok-entry.entry.now in
    let below = ltb-true place (length c.deref.result.now) (sym c.in_ok-entry.ensures.lookup.0) in
    let inside : place < length log.items = omega (arith, below, c.deref.ensures.len, log.ok) in
    let is : entry ≡ get_or log.items place entry = c.in_ok-entry.ensures.lookup.1 ∙ ap (λ es. get_or es place entry) c.deref.ensures.value in
    reply_at-entry c.self.inside place entry c.number_at.result inside is (c.number_at.ensures ∙ ap (λ (b : Register). number_at b place) (sym c.self.view_is)) ∙ ap (λ (b : Register). reply_at b place) c.self.view_is
