use Rattle.std.proofs.Common.{◌≡◌, get_or, ap, sym, ◌∙◌, arith}
use Rattle.std.proofs.Math.ListN.{get_or-map}
use Rattle.std.proofs.lemmas.List.{length-map}
use Rattle.ot_owner.specs.Owning.{Summed, copy_in, row_in}
use Rattle.ot_owner.specs.Kept.{summed_of, summeds_of, holder_from}
use Rattle.ot_owner.proofs.GroupLemmas.{holder-is, no_holder}
use Rattle.ot_owner.proofs.groups.copy_of.Goals as goal

pub index-requires : goal.index-requires
index-requires c =
    let gs = summeds_of c.args.groups.now.items in
    let h = holder-is c.args.cell 0 c.in-Some.i c.in-Some.place gs (sym (ap (λ xs. holder_from 0 (summeds_of xs) c.args.cell) c.deref.ensures.value) ∙ sym c.find.ensures ∙ c.in-Some.is) in
    omega (arith, h.1, h.2, length-map c.args.groups.now.items summed_of, c.args.groups.now.ok.0)

pub returns-in-Some : goal.returns-in-Some
returns-in-Some c =
    let items = c.args.groups.now.items in
    let gs = summeds_of items in
    let x = c.index.result.now in
    let h = holder-is c.args.cell 0 c.in-Some.i c.in-Some.place gs (sym (ap (λ xs. holder_from 0 (summeds_of xs) c.args.cell) c.deref.ensures.value) ∙ sym c.find.ensures ∙ c.in-Some.is) in
    let at : h.0 ≡ c.in-Some.i = omega (arith, h.1) in
    let here : get_or gs h.0 (summed_of x) ≡ summed_of x = ap (λ k. get_or gs k (summed_of x)) at ∙ get_or-map summed_of items c.in-Some.i x ∙ ap summed_of (sym c.index.ensures) in
    c.copy.ensures ∙ sym (h.3 c.args.worker (summed_of x) ∙ ap (λ (g : Summed). copy_in c.in-Some.place (row_in g.rows c.args.worker)) here)

pub returns-in-None : goal.returns-in-None
returns-in-None c = sym (no_holder c.args.worker c.args.cell 0 (summeds_of c.args.groups.now.items)
    (sym (ap (λ xs. holder_from 0 (summeds_of xs) c.args.cell) c.deref.ensures.value) ∙ sym c.find.ensures ∙ c.in-None.is))
