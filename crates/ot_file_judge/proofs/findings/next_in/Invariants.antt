use Rattle.std.proofs.Common.{◌≡◌, ◌≤◌, ◌-◌, List, length}
use Rattle.std.specs.Prelude.{None}
use Rattle.ot_file_judge.specs.Judging.{Refusal, Goes, standing}
use Rattle.ot_file_judge.proofs.findings.next_in.Given as goal

abbrev pub invariant-loop-piece : goal.invariant-loop-piece
invariant-loop-piece l = record {
  goes : (all : List Refusal) → Goes all (standing l.blank l.fn.from l.fn.book) → Goes all (standing l.blank l.at l.book);
  within : l.at ≤ length l.blank;
  past : l.fn.from ≤ l.at;
  closed : l.book.pending ≡ None;
}

abbrev pub decreases-loop-piece : goal.decreases-loop-piece
decreases-loop-piece l = length l.blank - l.at
