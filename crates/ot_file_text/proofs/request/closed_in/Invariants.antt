use Rattle.std.proofs.Common.{◌≡◌, ◌+◌, ◌≤◌, drop, option_map}
use Rattle.ot_file_text.specs.Places.{outside}
use Rattle.ot_file_text.specs.Cuts.{closed_in}
use Rattle.ot_file_text.proofs.request.closed_in.Given as goal

abbrev pub invariant-loop-index : goal.invariant-loop-index
invariant-loop-index l = record {
  count : option_map (λ n. l.index + n) (closed_in l.nesting (drop l.index l.text)) ≡ closed_in outside l.text;
  deep : l.nesting.depth ≤ l.index;
}
