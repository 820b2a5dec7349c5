use Rattle.std.proofs.Common.{◌≡◌, ◌+◌, ◌≤◌, drop, option_map}
use Rattle.ot_file_text.specs.Places.{inside}
use Rattle.ot_file_text.specs.Items.{behind_commas}
use Rattle.ot_file_text.proofs.item.behind_commas.Given as goal

abbrev pub invariant-loop-index : goal.invariant-loop-index
invariant-loop-index l = record {
  count : option_map (λ n. l.index + n) (behind_commas l.left l.nesting (drop l.index l.items)) ≡ behind_commas l.commas inside l.items;
  deep : l.nesting.depth ≤ l.index + 1;
}
