use Rattle.std.proofs.Common.{◌/◌, ◌%◌, ap, ◌∙◌, arith}
use Rattle.std.specs.Prelude.{slice_get, unwrap_or, option_map}
use Rattle.ot_show_graph.specs.declared.rows.Page.{Page}
use Rattle.ot_show_graph.specs.Written.{entry_on, row_seen, no_child}
use Rattle.ot_show_graph.proofs.RowLemmas.{pushed}
use Rattle.ot_show_graph.proofs.rows.Shelf.reach.Goals as goal

pub loop-preserved : goal.loop-preserved
loop-preserved c = (
  omega (arith, c.loop.invariant.0, c.in_ok-push.ensures.len, c.push.new.self.ok.0, c.loop.self.pages.ok.0),
  λ i.
      let said = λ (p : Page). entry_on p (i % 32) in
      ap (λ xs. unwrap_or (option_map said (slice_get xs (i / 32))) no_child) c.in_ok-push.ensures.items
      ∙ pushed said c.loop.self.pages.items (record { rows = c.new.result }) (i / 32)
      (ap (λ rows. unwrap_or (option_map row_seen (slice_get rows (i % 32))) no_child) c.new.ensures.items)
      ∙ c.loop.invariant.1 i,
)
