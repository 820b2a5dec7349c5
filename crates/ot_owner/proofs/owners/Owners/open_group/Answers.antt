use Rattle.std.proofs.Common.{◌≡◌, ◌≢◌, ◌++◌, ◌∷◌, [], ◌∙◌, sym, ap, subst}
use Rattle.std.proofs.lemmas.List.{map-append}
use Rattle.std.specs.Prelude.{None, All, replicate}
use Rattle.ot_model.specs.Cells.{cell_of}
use Rattle.ot_model.specs.declared.expr.Cell.{Cell}
use Rattle.ot_owner.specs.Keeping.{IsSound}
use Rattle.ot_owner.specs.Kept.{loans_in, summed_of, summeds_of}
use Rattle.ot_owner.specs.Owning.{Owned, IsFreeFor, Summed, IsNamed, IsSummed}
use Rattle.ot_owner.specs.Worth.{worth_over}
use Rattle.ot_owner.proofs.OpenLemmas.{opened-sound, opened-regular, opened-worth, same_worth}
use Rattle.ot_owner.proofs.owners.Owners.open_group.Goals as goal

pub invariant_of-self : goal.invariant_of-self
invariant_of-self c =
    let items = c.self.inside.groups.items in
    let g = c.open.result in
    let out = loans_in c.self.inside.rights in
    let new : Summed = record { group = c.args.group; op = c.args.op; uses = c.args.room; rows = replicate 17 None } in
    let was : record { out = out; groups = summeds_of items } ≡ c.args.self.now.owned = ap (λ k. k.owned) c.self.view_is in
    let more : summeds_of c.push_reserved.new.self.items ≡ summeds_of items ++ new ∷ [] =
    ap summeds_of c.push_reserved.ensures.items ∙ map-append summed_of items (g ∷ []) ∙ ap (λ (h : Summed). summeds_of items ++ h ∷ []) c.open.ensures.opened in
    subst (λ gs. IsSound (record { out = out; groups = gs })) (sym more)
    (opened-sound out (summeds_of items) new
    (opened-regular c.args.group c.args.op c.args.room c.open.ensures.written)
    (subst (λ (o : Owned). All (λ (h : Summed). h.group ≢ c.args.group) o.groups) (sym was) c.requires.new)
    (subst (λ (o : Owned). (d : Cell) → IsNamed c.args.room d → ¬ IsSummed o.groups d) (sym was) c.requires.unnamed)
    (subst (λ (o : Owned). IsFreeFor o.out c.args.room) (sym was) c.requires.unused) c.self.invariant)

pub returns-clause-worth : goal.returns-clause-worth
returns-clause-worth c = λ cells cell.
    let items = c.self.inside.groups.items in
    let g = c.open.result in
    let more : summeds_of c.push_reserved.new.self.items ≡ summeds_of items ++ summed_of g ∷ [] = ap summeds_of c.push_reserved.ensures.items ∙ map-append summed_of items (g ∷ []) in
    let was : summeds_of items ≡ c.args.self.now.owned.groups = ap (λ k. k.owned.groups) c.self.view_is in
    same_worth (worth_over (summeds_of c.push_reserved.new.self.items) cell) (worth_over c.args.self.now.owned.groups cell) (cell_of cells cell)
    (λ n. ap (λ gs. worth_over gs cell n) more ∙ opened-worth (summeds_of items) (summed_of g) cell n (ap (λ (s : Summed). s.rows) c.open.ensures.opened) ∙ ap (λ gs. worth_over gs cell n) was)
