use Rattle.std.proofs.Common.{◌≡◌, ◌==◌, ◌-◌, ◌∙◌, List, Any, ap, sym, subst}
use Rattle.std.specs.Prelude.{All, IsSome, None, option_map, true, vec_capacity, vec_len}
use Rattle.std.specs.List.{position_from, position}
use Rattle.std.proofs.lemmas.Iterator.Adapters.{position_from-zero}
use Rattle.ot_model.specs.Cells.{cell_of}
use Rattle.ot_owner.specs.Keeping.{IsSound, IsLast, Made, HasRow, Prepared}
use Rattle.ot_owner.specs.Kept.{loans_in, spare_in, summed_of, summeds_of, made_of, mades_of}
use Rattle.ot_owner.specs.Owning.{Owned, IsFreeFor, Summed, NoTwoShare, copies_in, without, folds_in}
use Rattle.ot_owner.specs.Worth.{copies_combined, worth_over, closed_over}
use Rattle.ot_owner.specs.declared.rows.Group.{Group}
use Rattle.ot_owner.proofs.OpenLemmas.{closing-at, not_open, closed-sound, worth-closed, same_worth}
use Rattle.ot_owner.proofs.RowLemmas.{seen-at, all-removed}
use Rattle.ot_owner.proofs.owners.Owners.close_group.Goals as goal

pub unreachable-requires : goal.unreachable-requires
unreachable-requires c =
    let items = c.self.inside.groups.items in
    let here : position_from (λ (g : Group). g.group == c.args.group) 0 items ≡ None =
    sym (ap (λ xs. position (λ (g : Group). g.group == c.args.group) xs) c.deref.ensures.value ∙ position_from-zero (λ (g : Group). g.group == c.args.group) items)
    ∙ sym c.place_of.ensures ∙ c.in_default.is in
    not_open c.args.group 0 items here (subst (λ (gs : List Summed). Any (λ g. g.group ≡ c.args.group) gs) (ap (λ k. k.owned.groups) (sym c.self.view_is)) c.requires.is_open)

pub combine-requires : goal.combine-requires
combine-requires c =
    let items = c.self.inside.groups.items in
    let x : Group = c.index.result.now in
    let closes = closing-at c.args.group c.in-Some.place items c.deref.result.now c.place_of.result c.deref.ensures.value c.place_of.ensures c.in-Some.is in
    seen-at summed_of (λ (g : Summed). g.group ≡ c.args.group → All (λ u. IsSome (cell_of c.args.cells.now u.cell)) g.uses) items c.in-Some.place x
    (subst (λ (gs : List Summed). All (λ g. g.group ≡ c.args.group → All (λ u. IsSome (cell_of c.args.cells.now u.cell)) g.uses) gs) (ap (λ k. k.owned.groups) (sym c.self.view_is)) c.requires.there)
    closes.within c.index.ensures (ap (λ (g : Group). g.group) c.index.ensures ∙ closes.number x)

pub invariant_of-self : goal.invariant_of-self
invariant_of-self c =
    let items = c.self.inside.groups.items in
    let out = loans_in c.self.inside.rights in
    let closes = closing-at c.args.group c.in-Some.place items c.deref.result.now c.place_of.result c.deref.ensures.value c.place_of.ensures c.in-Some.is in
    let unused : All (λ (g : Summed). g.group ≡ c.args.group → IsFreeFor out g.uses) (summeds_of items) =
    subst (λ (k : Owned). All (λ (g : Summed). g.group ≡ c.args.group → IsFreeFor k.out g.uses) k.groups) (ap (λ k. k.owned) (sym c.self.view_is)) c.requires.unused in
    subst (λ gs. IsSound (record { out = out; groups = gs })) (closes.rest ∙ sym (ap summeds_of c.remove.ensures.items))
    (closed-sound out (summeds_of items) c.args.group unused c.self.invariant)

pub returns-clause-stored : goal.returns-clause-stored
returns-clause-stored c = λ cell.
    let items = c.self.inside.groups.items in
    let x : Group = c.index.result.now in
    let closes = closing-at c.args.group c.in-Some.place items c.deref.result.now c.place_of.result c.deref.ensures.value c.place_of.ensures c.in-Some.is in
    let was : summeds_of items ≡ c.args.self.now.owned.groups = ap (λ k. k.owned.groups) c.self.view_is in
    c.combine.ensures.combined cell
    ∙ same_worth (λ n. copies_combined x.op n (copies_in cell (summed_of x))) (closed_over c.args.group c.args.self.now.owned.groups cell) (cell_of c.args.cells.now cell)
    (λ n. ap (λ (g : Group). copies_combined g.op n (copies_in cell (summed_of g))) c.index.ensures ∙ sym (closes.closed cell x n) ∙ ap (λ gs. closed_over c.args.group gs cell n) was)

pub returns-clause-groups : goal.returns-clause-groups
returns-clause-groups c =
    let items = c.self.inside.groups.items in
    let closes = closing-at c.args.group c.in-Some.place items c.deref.result.now c.place_of.result c.deref.ensures.value c.place_of.ensures c.in-Some.is in
    ap summeds_of c.remove.ensures.items ∙ sym closes.rest ∙ ap (λ k. without c.args.group k.owned.groups) c.self.view_is

pub returns-clause-worth : goal.returns-clause-worth
returns-clause-worth c = λ cell.
    let items = c.self.inside.groups.items in
    let gs = c.args.self.now.owned.groups in
    let single : NoTwoShare gs = subst NoTwoShare (ap (λ k. k.owned.groups) c.self.view_is) c.self.invariant.single in
    ap (λ hs. option_map (worth_over hs cell) (cell_of c.combine.new.cells cell)) (returns-clause-groups c)
    ∙ worth-closed c.args.group gs cell (cell_of c.args.cells.now cell) (cell_of c.combine.new.cells cell) single (returns-clause-stored c cell)

pub returns-clause-slips : goal.returns-clause-slips
returns-clause-slips c = λ (s : Prepared) last.
    let was : IsLast (record {
      owned = record { out = loans_in c.self.inside.rights; groups = summeds_of c.self.inside.groups.items };
      made = mades_of c.self.inside.groups.items;
      loans = spare_in c.self.inside.rights;
      places = vec_capacity c.self.inside.groups - vec_len c.self.inside.groups;
    }) s = subst (λ k. IsLast k s) (sym c.self.view_is) last in
    record {
      place = was.place;
      rows = subst (λ (gs : List Group). All (λ (m : Made). folds_in m.uses s.uses ≡ true → HasRow s.worker m) (mades_of gs)) (sym c.remove.ensures.items)
          (all-removed made_of (λ (m : Made). folds_in m.uses s.uses ≡ true → HasRow s.worker m) c.self.inside.groups.items c.in-Some.place was.rows);
    }
