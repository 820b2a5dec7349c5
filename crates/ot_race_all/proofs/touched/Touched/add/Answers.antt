use Rattle.std.proofs.Common.{◌≡◌, ◌≢◌, ◌∙◌, List, [], ◌∷◌, ◌++◌, get_or, map, set, sym, ap, inl, inr}
use Rattle.std.proofs.lemmas.Bool.{cases_eq}
use Rattle.std.proofs.lemmas.Result.{on_ok_weaker}
use Rattle.ot_model.proofs.CellsLemmas as cells
use Rattle.ot_race.proofs.PlaceLemmas.{read_at, set_here, set_other, place_read}
use Rattle.ot_race_all.specs.Found.{row_of_touches, touches_at}
use Rattle.ot_race_all.specs.declared.touched.Touch.{Touch}
use Rattle.ot_race_all.proofs.touched.Touched.add.Goals as goal

pub returns-clause-there : goal.returns-clause-there
returns-clause-there c =
    let rows = c.reach.new.self.rows.items in
    let cell = c.args.cell in
    let there = c.in_ok-reach.ensures.there in
    let row = c.index_mut.result.now in
    let before : get_or (row_of_touches row) cell.index [] ≡ touches_at c.args.self.now.rows.items cell =
    ap (λ (r : List (List Touch)). get_or r cell.index [])
    (sym (read_at row_of_touches rows cell.array row [] (place_read rows cell.array row there c.index_mut.ensures.value)))
    ∙ c.in_ok-reach.ensures.same cell in
    on_ok_weaker c.add.result
    (λ e.
    ap (λ (r : List (List Touch)). get_or r cell.index []) (set_here row_of_touches rows cell.array c.add.new.self [] there) ∙ e
    ∙ ap (λ ts. ts ++ c.args.touch ∷ []) before) c.add.ensures.there

pub returns-clause-others : goal.returns-clause-others
returns-clause-others c =
    let rows = c.reach.new.self.rows.items in
    let cell = c.args.cell in
    let there = c.in_ok-reach.ensures.there in
    let row = c.index_mut.result.now in
    on_ok_weaker c.add.result
    (λ e d apart. elim (cases_eq d.array cell.array) [
      | inl same ↦
          let index : d.index ≢ cell.index = λ i. apart (cells.same_cell d cell same i) in
          ap (λ a. get_or (get_or (map row_of_touches (set rows cell.array c.add.new.self)) a []) d.index []) same
          ∙ ap (λ (r : List (List Touch)). get_or r d.index []) (set_here row_of_touches rows cell.array c.add.new.self [] there)
          ∙ e d.index index
          ∙ ap (λ (r : List (List Touch)). get_or r d.index [])
          (sym (read_at row_of_touches rows cell.array row [] (place_read rows cell.array row there c.index_mut.ensures.value)))
          ∙ sym (ap (λ a. get_or (get_or (map row_of_touches rows) a []) d.index []) same)
          ∙ c.in_ok-reach.ensures.same d
      | inr other ↦
          ap (λ (r : List (List Touch)). get_or r d.index []) (set_other row_of_touches rows cell.array d.array c.add.new.self [] other)
          ∙ c.in_ok-reach.ensures.same d
    ]) c.add.ensures.others
