use Rattle.std.proofs.Common.{◌/◌, ◌%◌, ap, ◌∙◌, arith}
use Rattle.std.specs.Prelude.{slice_get, unwrap_or, option_map}
use Rattle.ot_show_graph.specs.declared.rows.Page.{Page}
use Rattle.ot_show_graph.specs.declared.rows.Shelf.{Shelf}
use Rattle.ot_show_graph.specs.Written.{row_on_shelf, entry_on, no_child}
use Rattle.ot_show_graph.proofs.RowLemmas.{pushed}
use Rattle.ot_show_graph.proofs.rows.Rows.reach.Goals as goal

pub loop-preserved : goal.loop-preserved
loop-preserved c = (
  omega (arith, c.loop.invariant.0, c.in_ok-push.ensures.len, c.push.new.self.ok.0, c.loop.self.shelves.ok.0),
  λ cell.
      let said = λ (s : Shelf). row_on_shelf s cell.index in
      ap (λ xs. unwrap_or (option_map said (slice_get xs cell.array)) no_child) c.in_ok-push.ensures.items
      ∙ pushed said c.loop.self.shelves.items (record { pages = c.new.result }) cell.array
      (ap (λ pages. unwrap_or (option_map (λ (p : Page). entry_on p (cell.index % 32)) (slice_get pages (cell.index / 32))) no_child) c.new.ensures.items)
      ∙ c.loop.invariant.1 cell,
)
