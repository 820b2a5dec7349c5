use Rattle.std.proofs.Common.{◌≡◌}
use Rattle.std.specs.Prelude.{None, All}
use Rattle.ot_file_report.specs.NoteView.{stands_of}
use Rattle.ot_file_report.proofs.reasons.reason_notes.Given as goal

abbrev pub invariant-loop-reason : goal.invariant-loop-reason
invariant-loop-reason l = All (λ stand. stand ≡ None) (stands_of l.notes.items)
