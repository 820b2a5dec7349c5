-- What is told of a text that is judged, or written as lines, and how that ends.
use Rattle.std.specs.Prelude.{◌≡◌, ℕ, Bool, true, false, List, [], ◌∷◌, ◌++◌, map, codes, Option, Some, None, Ok, ⊤, if◌then◌else◌}
use Rattle.std.specs.Io.KnownBytes.{Appends}
use Rattle.serde_json.specs.Data.{Data}
use Rattle.serde_json.specs.Written.{has_float}
use Rattle.ot_file_diagnosis.specs.Diagnoses.{Diagnosis}
use Rattle.ot_file_diagnosis.specs.DiagnosisView.{diagnosis_by}
use Rattle.ot_file_diagnosis.specs.Formats.{found_text, without_refusals, document_text}
use Rattle.ot_file_diagnosis.specs.Sarif.{document_value}
use Rattle.ot_file_diagnosis.specs.Summaries.{summary_text}
use Rattle.ot_file_diagnosis.specs.declared.diagnosis.Code.TheVariants as code
use Rattle.ot_file_diagnosis.specs.declared.diagnosis.Severity.TheVariants.{Error}
use Rattle.ot_file_diagnosis.specs.declared.format.Format.{Format}
use Rattle.ot_file_diagnosis.specs.declared.format.Format.TheVariants.{Text, Json, Sarif, Github}
use Rattle.ot_file_diagnosis.specs.declared.summary.Outcome.{Outcome}
use Rattle.ot_file_diagnosis.specs.declared.summary.Outcome.TheVariants as o
use Rattle.ot_file_text.specs.Comments.{comments_blanked}
use Rattle.ot_store.specs.Arrays.{Named}
use Rattle.ot_file_judge.specs.Judging.{refusals_in, finds, arrays_made}
use Rattle.ot_file_report.specs.Report.{Reports}
use Rattle.ot_c_judge.specs.Reports.{Told}
use Rattle.ot_c_text.specs.Judging.{Judges}
use Rattle.ot_c_text.specs.declared.session.Session.{Session}
use Rattle.ot_c_text.specs.declared.session.Session.TheVariants as session
use Rattle.omptask.specs.Faults.{outcome_of}
use Rattle.omptask.specs.declared.ended.Ended.{Ended}
use Rattle.omptask.specs.declared.ended.Ended.TheVariants.{Well, Outside}
use Rattle.omptask.specs.declared.judging.Judged.{Judged}

-- what is told, where of a text in C only its races are to be
abbrev pub kept_where : Bool → List Diagnosis → List Diagnosis
kept_where true found = without_refusals found
kept_where false found = found

-- what was found in a text in C is told, and it ends by the verdict; nothing is said where there is none
abbrev pub TellsC : Bool → Told → Judged → Type 0
TellsC races_only (Some told) judged =
    (map diagnosis_by judged.found.items ≡ kept_where races_only told.1) × (judged.outcome ≡ outcome_of told.0)
TellsC races_only None judged = ⊤

-- A text in C of this name is judged where it means a program that can be judged. Of another one, which is executed, nothing is said.
abbrev pub JudgesC : Bool → List ℕ → List ℕ → Judged → Type 0
JudgesC races_only name text judged = (told : Told) × Judges name text told × TellsC races_only told judged

-- how it ends where these requests are refused
abbrev pub outcome_after : List Diagnosis → Outcome
outcome_after [] = o.Taken
outcome_after (one ∷ others) = o.Refused

-- A file of requests is judged, where these arrays are there before it: each that is refused is told, and it ends by whether any is.
abbrev pub JudgesRequests : List ℕ → List (List ℕ × ℕ) → Judged → Type 0
JudgesRequests text arrays judged =
    (now : List Named) × (found : List Diagnosis) × (arrays_made [] arrays ≡ Ok now) × Reports (comments_blanked text) (refusals_in (finds now) (comments_blanked text)) found
    × (map diagnosis_by judged.found.items ≡ found) × (judged.outcome ≡ outcome_after found)

-- a whole file isn't judged, in these words
abbrev pub whole_file : List ℕ → Diagnosis
whole_file words = record {
  severity = Error;
  code = code.Outside;
  told = record { place = None; file = None; turns = []; message = words };
  notes = [];
}

-- a text in C++ isn't judged
abbrev pub in_cpp : Diagnosis
in_cpp = whole_file (codes "this is C++, which isn't read")

-- a text that includes files which are there has no lines
abbrev pub HasNoLines : Session → Type 0
HasNoLines (session.Lines lines) = ⊥
HasNoLines (session.Outside found) = diagnosis_by found ≡ whole_file (codes "it includes files that are there: it is executed, and has no lines")

-- what was judged of a file of this name is written in the format
abbrev pub TellsJudged : Format → List ℕ → List ℕ → Judged → Option (List ℕ) → Option (List ℕ) → Type 0
TellsJudged format name text judged old new = Appends old new (found_text format name text (map diagnosis_by judged.found.items))

-- the document of SARIF with these results is written (of one that had a number with a fraction, the text isn't said)
unfoldable pub PutsDocument : List Data → List ℕ → List ℕ → Type 0
PutsDocument results old new = has_float (document_value results) ≡ false → new ≡ old ++ document_text results

-- at the end of all files: how many ended how, unless that isn't asked for, or a document of results
abbrev pub PutsEnd : Format → Bool → List Outcome → List Data → List ℕ → List ℕ → Type 0
PutsEnd (Text paint) quiet outcomes results old new = new ≡ (if quiet then old else old ++ summary_text outcomes)
PutsEnd Json quiet outcomes results old new = new ≡ old
PutsEnd Sarif quiet outcomes results old new = PutsDocument results old new
PutsEnd Github quiet outcomes results old new = new ≡ old

abbrev pub TellsEnd : Format → Bool → List Outcome → List Data → Option (List ℕ) → Option (List ℕ) → Type 0
TellsEnd format quiet outcomes results old new =
    (text : List ℕ) × PutsEnd format quiet outcomes results [] text × Appends old new text

-- the lines that are written of a text in C, and how it ends: there are none of one that isn't judged
abbrev pub session_lines : Session → List ℕ
session_lines (session.Lines lines) = lines.items
session_lines (session.Outside found) = []

abbrev pub ended_with : Session → Ended
ended_with (session.Lines lines) = Well
ended_with (session.Outside found) = Outside
