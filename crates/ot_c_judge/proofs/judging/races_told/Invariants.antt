use Rattle.std.proofs.Common.{◌≡◌, map, take}
use Rattle.ot_file_diagnosis.specs.DiagnosisView.{diagnosis_by}
use Rattle.ot_model.specs.View.{stmts_of}
use Rattle.ot_c_judge.specs.Reports.{race_found, in_run}
use Rattle.ot_c_judge.specs.SiteView.{source_by}
use Rattle.ot_c_judge.proofs.judging.races_told.Given as goal

abbrev pub invariant-loop-race : goal.invariant-loop-race
invariant-loop-race l = map diagnosis_by l.found.items ≡ map (race_found (source_by l.source) (stmts_of l.program.body.items) in_run) (take l.race-index l.races)
