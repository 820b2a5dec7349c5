use Rattle.std.proofs.Common.{◌≢◌, ◌∙◌, set, sym, ap, inl, inr}
use Rattle.std.specs.Prelude.{slice_get, unwrap_or, option_map}
use Rattle.std.proofs.lemmas.Bool.{cases_eq}
use Rattle.std.proofs.lemmas.Result.{on_ok_weaker}
use Rattle.ot_model.proofs.CellsLemmas as cells
use Rattle.ot_show_graph.specs.declared.rows.Shelf.{Shelf}
use Rattle.ot_show_graph.specs.Written.{row_on_shelf, entered_by, no_child}
use Rattle.ot_show_graph.proofs.RowLemmas.{place_read, get_here, said_here, said_other}
use Rattle.ot_show_graph.proofs.rows.Rows.enter.Goals as goal

pub returns-clause-there : goal.returns-clause-there
returns-clause-there c =
    let shelves = c.reach.new.self.shelves.items in
    let cell = c.args.used.cell in
    let shelf = c.index_mut.result.now in
    let there = c.in_ok-reach.ensures.there in
    let said = λ (s : Shelf). row_on_shelf s cell.index in
    on_ok_weaker c.enter.result
    (λ e.
    said_here said (set shelves cell.array c.enter.new.self) cell.array c.enter.new.self (get_here shelves cell.array c.enter.new.self there) ∙ e
    ∙ ap (entered_by c.args.child c.args.used.mode)
    (sym (said_here said shelves cell.array shelf (place_read shelves cell.array shelf there c.index_mut.ensures.value)) ∙ c.in_ok-reach.ensures.same cell))
    c.enter.ensures.there

pub returns-clause-others : goal.returns-clause-others
returns-clause-others c =
    let shelves = c.reach.new.self.shelves.items in
    let cell = c.args.used.cell in
    let shelf = c.index_mut.result.now in
    let new = c.enter.new.self in
    let there = c.in_ok-reach.ensures.there in
    on_ok_weaker c.enter.result
    (λ e d apart.
    let said = λ (s : Shelf). row_on_shelf s d.index in
    elim (cases_eq d.array cell.array) [
      | inl same ↦
          let index : d.index ≢ cell.index = λ i. apart (cells.same_cell d cell same i) in
          ap (λ a. unwrap_or (option_map said (slice_get (set shelves cell.array new) a)) no_child) same
          ∙ said_here said (set shelves cell.array new) cell.array new (get_here shelves cell.array new there) ∙ e d.index index
          ∙ sym (said_here said shelves cell.array shelf (place_read shelves cell.array shelf there c.index_mut.ensures.value))
          ∙ sym (ap (λ a. unwrap_or (option_map said (slice_get shelves a)) no_child) same)
          ∙ c.in_ok-reach.ensures.same d
      | inr other ↦ said_other said shelves cell.array d.array new other ∙ c.in_ok-reach.ensures.same d
    ]) c.enter.ensures.others
