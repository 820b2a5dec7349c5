use Rattle.std.proofs.Common.{◌≡◌, List, ◌++◌, ◌∷◌, [], map, sym, ap, ◌∙◌, subst}
use Rattle.std.specs.Prelude.{All}
use Rattle.std.proofs.lemmas.List.{map-append}
use Rattle.std.proofs.lemmas.List.Elements.{All-push}
use Rattle.ot_book.specs.Books.{new_register}
use Rattle.ot_core.specs.Accounts.{Account, IsSoundAccount, new_account}
use Rattle.ot_core.specs.Openings.{opening_of}
use Rattle.ot_core.proofs.world.open_books.Goals as goal

pub loop-name-preserved : goal.loop-name-preserved
loop-name-preserved c =
    let one : c.new-in-loop-name.result ≡ opening_of (c.in-Some.name, c.in-Some.limits, c.in-Some.store) =
    c.new-in-loop-name.ensures.is ∙ ap new_account (c.in_ok-book.ensures ∙ ap (λ n. new_register n c.in-Some.limits c.in-Some.store) c.as_str.ensures.value) in (
      c.in_ok-push.ensures.items ∙ ap (λ (xs : List Account). xs ++ c.new-in-loop-name.result ∷ []) c.loop-name.invariant.0
          ∙ ap (λ t. map opening_of c.loop-name.yielded ++ t ∷ []) one
          ∙ sym (map-append opening_of c.loop-name.yielded ((c.in-Some.name, c.in-Some.limits, c.in-Some.store) ∷ [])),
      subst (All IsSoundAccount) (sym c.in_ok-push.ensures.items) (All-push IsSoundAccount c.loop-name.tenants.items c.new-in-loop-name.result c.loop-name.invariant.1 c.new-in-loop-name.ensures.sound),
    )
