-- The session that runs a text in C.
use Rattle.std.specs.Prelude.{◌≡◌, ℕ, false, List, ◌∷◌, [], ◌++◌, Ok, Err}
use Rattle.serde_json.specs.Data.{Data}
use Rattle.serde_json.specs.Written.{compact_text, has_float}
use Rattle.ot_file_diagnosis.specs.Diagnoses.{place_in}
use Rattle.ot_file_diagnosis.specs.DiagnosisView.{diagnosis_by}
use Rattle.ot_c_judge.specs.Reports.{outside_error}
use Rattle.ot_c_text.specs.Reading.{Meant, Means}
use Rattle.ot_c_text.specs.Requests.{requests_of}
use Rattle.ot_c_text.specs.declared.session.Session.{Session}
use Rattle.ot_c_text.specs.declared.session.Session.TheVariants as s

-- a text with its LF
abbrev pub with_end : List ℕ → List ℕ
with_end text = text ++ 10 ∷ []

-- a request on a line; where a number in it has a fraction, the text isn't said
abbrev pub IsLine : Data → List ℕ → Type 0
IsLine request line = has_float request ≡ false → line ≡ with_end (compact_text request)

-- requests, one a line
abbrev pub AreLines : List Data → List ℕ → Type 0
AreLines [] text = text ≡ []
AreLines (r ∷ more) text = (line : List ℕ) × (rest : List ℕ) × IsLine r line × AreLines more rest × (text ≡ line ++ rest)

-- of what a text means
abbrev pub IsSessionOf : List ℕ → Meant → Session → Type 0
IsSessionOf text (Ok program) (s.Lines lines) = AreLines (requests_of program) lines.items
IsSessionOf text (Err fault) (s.Outside found) = diagnosis_by found ≡ outside_error (place_in text fault.0) fault.1
IsSessionOf text _ _ = ⊥

-- of a text
abbrev pub IsSession : List ℕ → Session → Type 0
IsSession text session = (meant : Meant) × Means text meant × IsSessionOf text meant session
