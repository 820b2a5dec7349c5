-- What a note of the code stands for.
use Rattle.std.specs.Prelude.{ℕ, List, map, Option, string_bytes}
use Rattle.ot_file_report.specs.declared.note.Note.{Note}

abbrev pub note_by : Note → Option ℕ × List ℕ
note_by note = (note.number, string_bytes note.words)

-- the statements at which they stand
abbrev pub stands_of : List Note → List (Option ℕ)
stands_of notes = map (λ note. note.number) notes
