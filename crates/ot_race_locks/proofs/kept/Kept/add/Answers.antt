use Rattle.std.proofs.Common.{◌≡◌, ◌≢◌, ◌∙◌, List, [], get_or, map, set, sym, ap, subst, inl, inr}
use Rattle.std.proofs.lemmas.Bool.{cases_eq}
use Rattle.std.proofs.lemmas.Result.{on_ok_weaker, IfOk-weaker}
use Rattle.ot_model.proofs.CellsLemmas as cells
use Rattle.ot_race.proofs.PlaceLemmas.{read_at, set_here, set_other, place_read}
use Rattle.ot_race_locks.specs.Kinds.{kind, kind_row, groups_at, KindFits}
use Rattle.ot_race_locks.specs.declared.group.Group.{Group}
use Rattle.ot_race_locks.proofs.kept.Kept.add.Goals as goal

pub returns-clause-there : goal.returns-clause-there
returns-clause-there c =
    let rows = c.reach.new.self.rows.items in
    let cell = c.args.cell in
    let there = c.in_ok-reach.ensures.there in
    let row = c.index_mut.result.now in
    let own = kind c.args.set c.args.mode in
    let n = c.args.number in
    let known = c.args.known.now in
    let before : get_or (kind_row row) cell.index [] ≡ groups_at c.args.self.now.rows.items cell =
    ap (λ (r : List (List Group)). get_or r cell.index [])
    (sym (read_at kind_row rows cell.array row [] (place_read rows cell.array row there c.index_mut.ensures.value)))
    ∙ c.in_ok-reach.ensures.same cell in
    IfOk-weaker c.add.result _ _
    (λ fits e.
    subst (λ (gs : List Group). KindFits own n known gs (groups_at (set rows cell.array c.add.new.self) cell) fits) before
    (subst (λ (gs : List Group). KindFits own n known (get_or (kind_row row) cell.index []) gs fits)
    (sym (ap (λ (r : List (List Group)). get_or r cell.index []) (set_here kind_row rows cell.array c.add.new.self [] there))) e)) c.add.ensures.there

pub returns-clause-others : goal.returns-clause-others
returns-clause-others c =
    let rows = c.reach.new.self.rows.items in
    let cell = c.args.cell in
    let there = c.in_ok-reach.ensures.there in
    let row = c.index_mut.result.now in
    on_ok_weaker c.add.result
    (λ e d apart. elim (cases_eq d.array cell.array) [
      | inl same ↦
          let index : d.index ≢ cell.index = λ i. apart (cells.same_cell d cell same i) in
          ap (λ a. get_or (get_or (map kind_row (set rows cell.array c.add.new.self)) a []) d.index []) same
          ∙ ap (λ (r : List (List Group)). get_or r d.index []) (set_here kind_row rows cell.array c.add.new.self [] there)
          ∙ e d.index index
          ∙ ap (λ (r : List (List Group)). get_or r d.index [])
          (sym (read_at kind_row rows cell.array row [] (place_read rows cell.array row there c.index_mut.ensures.value)))
          ∙ sym (ap (λ a. get_or (get_or (map kind_row rows) a []) d.index []) same)
          ∙ c.in_ok-reach.ensures.same d
      | inr other ↦
          ap (λ (r : List (List Group)). get_or r d.index []) (set_other kind_row rows cell.array d.array c.add.new.self [] other)
          ∙ c.in_ok-reach.ensures.same d
    ]) c.add.ensures.others
