use Rattle.std.proofs.Common.{rules, ap, ◌∙◌}
use Rattle.std.proofs.lemmas.Fn.{filter_same}
use Rattle.ot_show_graph.specs.Children.{created_of, all_of}
use Rattle.ot_show_graph.specs.Passing.{is_within}
use Rattle.ot_show_graph.proofs.RunLemmas.{all_of-filter}
use Rattle.ot_show_graph.proofs.run.keep_before.Goals as goal

pub returns : goal.returns
returns c =
    ap all_of (filter_same _ (λ child. is_within c.args.tasks (created_of child)) _ (λ x b f' k. search rules) _ _ c.retain.ensures.filtered)
    ∙ all_of-filter (is_within c.args.tasks) c.args.pending.now.items
