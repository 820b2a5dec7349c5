use Rattle.std.proofs.Common.{◌<◌, ◌^◌, ◌∙◌, ◌++◌, ◌∷◌, [], ℕ, take, get_or, All, ap, sym, subst}
use Rattle.std.proofs.lemmas.List.{take_more}
use Rattle.std.proofs.lemmas.List.Elements.{All-push}
use Rattle.ot_owner.proofs.numbers.numbers_in.Goals as goal

pub loop-array-preserved : goal.loop-array-preserved
loop-array-preserved c =
    let arrays = c.args.arrays.now in
    let k = c.loop-array.array-index in
    let x = c.array-item.result in
    subst (All (λ array. (i : ℕ) → get_or array.items i 0 < 2 ^ 64)) (ap (λ y. take k arrays ++ y ∷ []) c.array-item.is ∙ sym (take_more arrays k x c.loop-array-test.true))
    (All-push (λ array. (i : ℕ) → get_or array.items i 0 < 2 ^ 64) (take k arrays) x c.loop-array.invariant (subst (λ ns. (i : ℕ) → get_or ns i 0 < 2 ^ 64) c.deref.ensures.value c.numbers_of.ensures))
