use Rattle.std.proofs.Common.{ap, ◌∙◌, arith}
use Rattle.std.specs.Prelude.{slice_get, unwrap_or, option_map}
use Rattle.ot_show_graph.specs.Written.{row_seen, no_child}
use Rattle.ot_show_graph.proofs.RowLemmas.{pushed}
use Rattle.ot_show_graph.proofs.rows.Page.reach.Goals as goal

pub loop-preserved : goal.loop-preserved
loop-preserved c = (
  omega (arith, c.loop.invariant.0, c.in_ok-push.ensures.len, c.push.new.self.ok.0, c.loop.self.rows.ok.0),
  λ i.
      ap (λ xs. unwrap_or (option_map row_seen (slice_get xs i)) no_child) c.in_ok-push.ensures.items
      ∙ pushed row_seen c.loop.self.rows.items c.new.result i c.new.ensures ∙ c.loop.invariant.1 i,
)
