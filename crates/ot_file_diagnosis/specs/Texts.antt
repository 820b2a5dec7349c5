-- What is found in a file, as compilers show it.
use Rattle.std.specs.Prelude.{ℕ, ◌==◌, List, [], ◌++◌, map, flat_map, codes, Option, Some, None, if◌then◌else◌}
use Rattle.std.specs.Fmt.{decimal}
use Rattle.ot_file_diagnosis.specs.Diagnoses.{Remark, Diagnosis, path_of}
use Rattle.ot_file_diagnosis.specs.Pictures.{in_colour, picture_text}
use Rattle.ot_file_diagnosis.specs.declared.diagnosis.Code.{Code}
use Rattle.ot_file_diagnosis.specs.declared.diagnosis.Code.TheVariants.{Race, Lifetime, Outside, Refused}
use Rattle.ot_file_diagnosis.specs.declared.diagnosis.Place.{Place}
use Rattle.ot_file_diagnosis.specs.declared.diagnosis.Severity.{Severity}
use Rattle.ot_file_diagnosis.specs.declared.diagnosis.Severity.TheVariants.{Error, Note}
use Rattle.ot_file_diagnosis.specs.declared.paint.Paint.{Paint}

-- `NAME:LINE:COLUMN`; the name alone of what is said of the whole file
abbrev pub place_text : List ℕ → Option Place → List ℕ
place_text name None = name
place_text name (Some p) = name ++ (codes ":" ++ (decimal p.position.line ++ (codes ":" ++ decimal p.position.column)))

-- `: error: `
abbrev pub mark_text : Paint → Severity → List ℕ
mark_text paint Error = codes ": " ++ (in_colour paint (codes "1;31") (codes "error:") ++ codes " ")
mark_text paint Note = codes ": " ++ (in_colour paint (codes "1;36") (codes "note:") ++ codes " ")

-- ` [race]`, behind a message; nothing where the message says it, or where there is nothing to say
abbrev pub label_text : Code → List ℕ
label_text Race = codes " [race]"
label_text Lifetime = codes " [lifetime]"
label_text Outside = codes " [outside]"
label_text (Refused number) = codes " [" ++ (decimal number ++ codes "]")
label_text other = []

-- a byte of words that stand on one line
abbrev pub one_line_byte : ℕ → ℕ
one_line_byte b = if b == 10 then 32 else b

-- `NAME:LINE:COLUMN: error: MESSAGE [race]`
abbrev pub line_text : Paint → List ℕ → Severity → Remark → List ℕ → List ℕ
line_text paint name severity r label =
    place_text (path_of name r) r.place ++ (mark_text paint severity ++ (map one_line_byte r.message ++ (label ++ codes "\n")))

-- the line of the source, where there is one
abbrev pub pictures : Paint → List ℕ → Option Place → List ℕ
pictures paint text None = []
pictures paint text (Some p) = picture_text paint text p

abbrev pub remark_text : Paint → List ℕ → List ℕ → Severity → Remark → List ℕ → List ℕ
remark_text paint name text severity r label = line_text paint name severity r label ++ pictures paint text r.place

abbrev pub notes_shown : Paint → List ℕ → List ℕ → List Remark → List ℕ
notes_shown paint name text notes = flat_map (λ note. remark_text paint name text Note note []) notes

-- what is found in a file of this name with these bytes, and its notes behind it
abbrev pub diagnosis_text : Paint → List ℕ → List ℕ → Diagnosis → List ℕ
diagnosis_text paint name text d = remark_text paint name text d.severity d.told (label_text d.code) ++ notes_shown paint name text d.notes
