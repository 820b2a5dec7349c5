-- What is found in a file, as a value of JSON.
use Rattle.std.specs.Prelude.{ℕ, ◌-◌, List, [], ◌∷◌, map, codes, Option, Some, None}
use Rattle.serde_json.specs.Data.{Data, string, number, unsigned, array, object, Members, no_members, put}
use Rattle.serde_json.specs.View.{items_of}
use Rattle.ot_file_diagnosis.specs.Diagnoses.{Remark, Diagnosis, path_of, from_of}
use Rattle.ot_file_diagnosis.specs.Codes.{severity_text, code_text}
use Rattle.ot_file_diagnosis.specs.declared.diagnosis.Place.{Place}

abbrev pub nat : ℕ → Data
nat n = number (unsigned n)

abbrev pub json_list : List Data → Data
json_list values = array (items_of values)

-- `["i",1]`
abbrev pub turn_value : List ℕ × ℕ → Data
turn_value turn = json_list (string turn.0 ∷ nat turn.1 ∷ [])

-- a byte, a line and a column of a file that has so many bytes before it in the text that is shown, where there is a place
abbrev pub with_place : ℕ → Option Place → Members → Members
with_place from None ms = ms
with_place from (Some p) ms = put (codes "column") (nat p.position.column) (put (codes "line") (nat p.position.line) (put (codes "byte") (nat (p.byte - from)) ms))

-- what is said of a file of this name
abbrev pub members_of : List ℕ → Remark → Members
members_of name r =
    with_place (from_of r) r.place (put (codes "turns") (json_list (map turn_value r.turns)) (put (codes "message") (string r.message) (put (codes "file") (string (path_of name r)) no_members)))

abbrev pub note_values : List ℕ → List Remark → List Data
note_values name notes = map (λ note. object (members_of name note)) notes

-- what is found in it
abbrev pub diagnosis_value : List ℕ → Diagnosis → Data
diagnosis_value name d =
    object (put (codes "notes") (json_list (note_values name d.notes)) (put (codes "severity") (string (severity_text d.severity)) (put (codes "code") (string (code_text d.code)) (members_of name d.told))))
