use Rattle.std.proofs.Common.{◌≡◌, ◌≤◌, ◌+◌, ◌⊎◌, ◌∷◌, ◌∙◌, ap, subst, length, take}
use Rattle.ot_book.specs.Shelves.{FitOn}
use Rattle.ot_book.proofs.ShelfLemmas.{keeps-as}
use Rattle.ot_book.proofs.shelf.Shelf.keep.Goals as goal

pub returns : goal.returns
returns c =
    let r = c.args.kept in
    let now : c.insert.new.self.items ≡ r ∷ c.args.self.now = c.in_ok-insert.ensures.items ∙ ap (λ rs. r ∷ rs) c.self.view_is in
    let seen : c.deref.result.now ≡ r ∷ c.args.self.now = c.deref.ensures.value ∙ now in
    let stay = c.fitting-stay.result in
    keeps-as c.args.self.now r stay c.truncate.new.self.items
    (c.truncate.ensures.items ∙ ap (take stay) now)
    (subst (λ rs. (stay ≡ length rs) ⊎ (1 ≤ stay)) seen c.fitting-stay.ensures.one)
    (subst (λ rs. (stay ≡ length rs) ⊎ (¬ (FitOn (take (stay + 1) rs)))) seen c.fitting-stay.ensures.most)
