use Rattle.std.proofs.Common.{◌≡◌, get_or, ap, sym, ◌∙◌, subst, arith, true≢false}
use Rattle.std.specs.Prelude.{Some, IsSome, is_some}
use Rattle.std.proofs.Math.ListN.{get_or-map}
use Rattle.std.proofs.lemmas.List.{length-map}
use Rattle.ot_model.specs.Cells.{updated}
use Rattle.ot_owner.specs.Owning.{Summed, copy_in, row_in, copies_folded, folded_in}
use Rattle.ot_owner.specs.Kept.{summed_of, summeds_of, made_of, holder_from}
use Rattle.ot_owner.proofs.RowLemmas.{map-changed, map-kept}
use Rattle.ot_owner.proofs.GroupLemmas.{folded-at, holder-is, no_holder}
use Rattle.ot_owner.proofs.groups.fold.Goals as goal

pub index_mut-requires : goal.index_mut-requires
index_mut-requires c =
    let gs = summeds_of c.args.groups.now.items in
    let h = holder-is c.args.cell 0 c.in-Some.i c.in-Some.place gs (sym (ap (λ xs. holder_from 0 (summeds_of xs) c.args.cell) c.deref.ensures.value) ∙ sym c.find.ensures ∙ c.in-Some.is) in
    omega (arith, h.1, h.2, length-map c.args.groups.now.items summed_of, c.args.groups.now.ok.0)

pub fold-requires : goal.fold-requires
fold-requires c =
    let items = c.args.groups.now.items in
    let gs = summeds_of items in
    let x = c.index_mut.result.now in
    let h = holder-is c.args.cell 0 c.in-Some.i c.in-Some.place gs (sym (ap (λ xs. holder_from 0 (summeds_of xs) c.args.cell) c.deref.ensures.value) ∙ sym c.find.ensures ∙ c.in-Some.is) in
    let at : h.0 ≡ c.in-Some.i = omega (arith, h.1) in
    let here : get_or gs h.0 (summed_of x) ≡ summed_of x = ap (λ k. get_or gs k (summed_of x)) at ∙ get_or-map summed_of items c.in-Some.i x ∙ ap summed_of (sym c.index_mut.ensures.value) in
    subst IsSome (h.3 c.args.worker (summed_of x) ∙ ap (λ (g : Summed). copy_in c.in-Some.place (row_in g.rows c.args.worker)) here) c.requires

pub returns-in-Some-clause-folded : goal.returns-in-Some-clause-folded
returns-in-Some-clause-folded c =
    let items = c.args.groups.now.items in
    let gs = summeds_of items in
    let h = folded-at c.args.worker c.args.number c.args.cell 0 c.in-Some.i c.in-Some.place gs
    (sym (ap (λ xs. holder_from 0 (summeds_of xs) c.args.cell) c.deref.ensures.value) ∙ sym c.find.ensures ∙ c.in-Some.is) in
    let at : h.0 ≡ c.in-Some.i = omega (arith, h.1) in
    map-changed summed_of items c.in-Some.i c.index_mut.result.now c.fold.new.self (λ (g : Summed). folded_in c.args.worker c.args.number g (Some c.in-Some.place)) c.index_mut.ensures.value c.fold.ensures.folded
    ∙ sym (subst (λ k. copies_folded c.args.worker c.args.cell c.args.number gs ≡ updated gs k (λ (g : Summed). folded_in c.args.worker c.args.number g (Some c.in-Some.place))) at h.3)

pub returns-in_default-clause-folded : goal.returns-in_default-clause-folded
returns-in_default-clause-folded c =
    let gone = no_holder c.args.worker c.args.cell 0 (summeds_of c.args.groups.now.items)
    (sym (ap (λ xs. holder_from 0 (summeds_of xs) c.args.cell) c.deref.ensures.value) ∙ sym c.find.ensures ∙ c.in_default.is) in
    absurd (true≢false (sym c.requires ∙ ap is_some gone))

pub returns-in-Some-clause-made : goal.returns-in-Some-clause-made
returns-in-Some-clause-made c = map-kept made_of c.args.groups.now.items c.in-Some.i c.index_mut.result.now c.fold.new.self c.index_mut.ensures.value c.fold.ensures.made
