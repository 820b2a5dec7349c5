use Rattle.std.proofs.Common.{◌≡◌, ◌∙◌, ◌++◌, ◌∷◌, [], List, ap, subst, arith}
use Rattle.ot_owner.specs.Owning.{Owned, IsSummed, Summed}
use Rattle.test_book.specs.TwoGroups.{nth}
use Rattle.test_book.proofs.TwoLemmas.{over-unnamed}
use Rattle.test_book.proofs.rows.Groups.new.Goals as goal

pub open-requires-2-clause-unnamed : goal.open-requires-2-clause-unnamed
open-requires-2-clause-unnamed c = λ summed.
    let (g, over, is) = c.in_ok-open.ensures.opened in
    over-unnamed 1 c.args.op 0 1 g over (λ (e : 0 ≡ 1). omega (arith, e))
    (subst (λ (gs : List Summed). IsSummed gs (nth 1)) (is ∙ ap (λ (o : Owned). o.groups ++ g ∷ []) c.new-owners.ensures.owned) summed)
