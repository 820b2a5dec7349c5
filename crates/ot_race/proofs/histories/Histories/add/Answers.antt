use Rattle.std.proofs.Common.{◌≡◌, ◌≢◌, ◌∙◌, List, [], get_or, map, set, sym, ap, subst, inl, inr}
use Rattle.std.proofs.lemmas.Bool.{cases_eq}
use Rattle.std.proofs.lemmas.Result.{on_ok_weaker}
use Rattle.ot_model.proofs.CellsLemmas as cells
use Rattle.ot_race.specs.Histories.{Phases, phases_at, row_of, no_phases, IsTouched}
use Rattle.ot_race.proofs.PlaceLemmas.{read_at, set_here, set_other, place_read}
use Rattle.ot_race.proofs.histories.Histories.add.Goals as goal

pub returns-clause-there : goal.returns-clause-there
returns-clause-there c =
    let rows = c.reach.new.self.rows.items in
    let cell = c.args.cell in
    let there = c.in_ok-reach.ensures.there in
    let row = c.index_mut.result.now in
    let before : get_or (row_of row) cell.index no_phases ≡ phases_at c.args.self.now.rows.items cell =
    ap (λ (r : List Phases). get_or r cell.index no_phases)
    (sym (read_at row_of rows cell.array row [] (place_read rows cell.array row there c.index_mut.ensures.value)))
    ∙ c.in_ok-reach.ensures.same cell in
    on_ok_weaker c.add.result
    (λ e.
    subst (λ (ph : Phases). IsTouched ph c.args.mode c.args.event c.args.known.now (phases_at (set rows cell.array c.add.new.self) cell)) before
    (subst (IsTouched (get_or (row_of row) cell.index no_phases) c.args.mode c.args.event c.args.known.now)
    (sym (ap (λ (r : List Phases). get_or r cell.index no_phases) (set_here row_of rows cell.array c.add.new.self [] there))) e)) c.add.ensures.there

pub returns-clause-others : goal.returns-clause-others
returns-clause-others c =
    let rows = c.reach.new.self.rows.items in
    let cell = c.args.cell in
    let there = c.in_ok-reach.ensures.there in
    let row = c.index_mut.result.now in
    on_ok_weaker c.add.result
    (λ e d apart. elim (cases_eq d.array cell.array) [
      | inl same ↦
          let index : d.index ≢ cell.index = λ i. apart (cells.same_cell d cell same i) in
          ap (λ a. get_or (get_or (map row_of (set rows cell.array c.add.new.self)) a []) d.index no_phases) same
          ∙ ap (λ (r : List Phases). get_or r d.index no_phases) (set_here row_of rows cell.array c.add.new.self [] there)
          ∙ e d.index index
          ∙ ap (λ (r : List Phases). get_or r d.index no_phases)
          (sym (read_at row_of rows cell.array row [] (place_read rows cell.array row there c.index_mut.ensures.value)))
          ∙ sym (ap (λ a. get_or (get_or (map row_of rows) a []) d.index no_phases) same)
          ∙ c.in_ok-reach.ensures.same d
      | inr other ↦
          ap (λ (r : List Phases). get_or r d.index no_phases) (set_other row_of rows cell.array d.array c.add.new.self [] other)
          ∙ c.in_ok-reach.ensures.same d
    ]) c.add.ensures.others
