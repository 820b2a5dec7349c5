use Rattle.std.proofs.Common.{◌≡◌, None, arith, ap, refl, subst, sym}
use Rattle.std.specs.List.{All}
use Rattle.std.proofs.lemmas.Grind.{common_steps}
use Rattle.std.proofs.lemmas.List.Elements.{All-push}
use Rattle.ot_book.specs.Books.{Register}
use Rattle.ot_serve.specs.Starting.{newcomer}
use Rattle.ot_serve.proofs.socket.empty_books.Goals as goal

pub loop-name-preserved : goal.loop-name-preserved
loop-name-preserved c =
    let is = c.in_ok-empty_book.ensures in
    let named = ap (λ (book : Register). book.name) is in (
      grind (arith, common_steps, named),
      subst (All (λ book. book ≡ newcomer book.name)) (sym c.in_ok-push.ensures.items)
          (All-push (λ book. book ≡ newcomer book.name) c.loop-name.books.items c.in_ok-empty_book.field-0 c.loop-name.invariant.1
          (subst (λ (book : Register). book ≡ newcomer book.name) (sym is) refl)),
      subst (All (λ book. book.pending ≡ None)) (sym c.in_ok-push.ensures.items)
          (All-push (λ book. book.pending ≡ None) c.loop-name.books.items c.in_ok-empty_book.field-0 c.loop-name.invariant.2
          (ap (λ (book : Register). book.pending) is)),
    )
