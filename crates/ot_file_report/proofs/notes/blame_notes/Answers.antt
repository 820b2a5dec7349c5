use Rattle.std.proofs.Common.{rules, ap}
use Rattle.ot_model.specs.Programs.{expanded_of}
use Rattle.ot_file_judge.proofs.FindingLemmas.{match_none}
use Rattle.ot_file_report.specs.NoteView.{stands_of}
use Rattle.ot_file_report.proofs.NoteLemmas.{no_blame}
use Rattle.ot_file_report.proofs.notes.blame_notes.Goals as goal

pub returns : goal.returns
returns c =
    no_blame _ (expanded_of c.in-Some-2.program) c.args.place c.args.offence (stands_of c.new-in-None.result.items) (search rules)
    (ap stands_of c.new-in-None.ensures.items) (match_none c.in_ok-blame.field-0 _ _ c.in-None.is c.in_ok-blame.ensures)
