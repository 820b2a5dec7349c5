use Rattle.std.proofs.Common.{◌≤◌, ◌-◌, length}
use Rattle.std.specs.Prelude.{flat_map}
use Rattle.ot_file_judge.specs.Judging.{lines_from, with_end}
use Rattle.ot_file_judge.proofs.GoingLemmas.{Writing}
use Rattle.ot_file_judge.proofs.lines.lines_of.Given as goal

abbrev pub invariant-loop-piece : goal.invariant-loop-piece
invariant-loop-piece l = record {
  writing : Writing (flat_map with_end (lines_from (length l.blank.items) l.blank.items 0)) l.blank.items l.from l.out.items;
  within : l.from ≤ length l.blank.items;
}

abbrev pub decreases-loop-piece : goal.decreases-loop-piece
decreases-loop-piece l = length l.blank.items - l.from
