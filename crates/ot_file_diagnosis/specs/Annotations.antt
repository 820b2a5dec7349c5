-- What is found in a file, as GitHub's workflows take it.
use Rattle.std.specs.Prelude.{ℕ, List, [], ◌++◌, flat_map, codes, Option, Some, None}
use Rattle.std.specs.Fmt.{decimal}
use Rattle.ot_file_diagnosis.specs.Diagnoses.{Remark, Diagnosis, path_of}
use Rattle.ot_file_diagnosis.specs.Escapes.{message_text, property_text}
use Rattle.ot_file_diagnosis.specs.Texts.{place_text, label_text}
use Rattle.ot_file_diagnosis.specs.declared.diagnosis.Place.{Place}
use Rattle.ot_file_diagnosis.specs.declared.diagnosis.Severity.{Severity}
use Rattle.ot_file_diagnosis.specs.declared.diagnosis.Severity.TheVariants.{Error, Note}

abbrev pub command_text : Severity → List ℕ
command_text Error = codes "::error file="
command_text Note = codes "::notice file="

abbrev pub where_text : Option Place → List ℕ
where_text None = []
where_text (Some p) = codes ",line=" ++ (decimal p.position.line ++ (codes ",col=" ++ decimal p.position.column))

-- the message, with the code where the text for people has it
abbrev pub told_text : Diagnosis → List ℕ
told_text d = codes "::" ++ (message_text d.told.message ++ label_text d.code)

-- a note is a line more of the message
abbrev pub note_text : List ℕ → Remark → List ℕ
note_text name note = message_text (codes "\n" ++ (place_text (path_of name note) note.place ++ (codes ": " ++ note.message)))

abbrev pub notes_text : List ℕ → List Remark → List ℕ
notes_text name notes = flat_map (note_text name) notes

-- `::error file=NAME,line=LINE,col=COLUMN::MESSAGE [race]`, and the notes
abbrev pub annotation_text : List ℕ → Diagnosis → List ℕ
annotation_text name d =
    command_text d.severity ++ (property_text (path_of name d.told) ++ (where_text d.told.place ++ (told_text d ++ (notes_text name d.notes ++ codes "\n"))))
