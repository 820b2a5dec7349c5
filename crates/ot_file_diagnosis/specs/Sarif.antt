-- What is found in files, as SARIF 2.1.0.
use Rattle.std.specs.Prelude.{ℕ, List, [], ◌∷◌, map, codes, Option, Some, None}
use Rattle.serde_json.specs.Data.{Data, string, object, Members, no_members, put}
use Rattle.ot_file_diagnosis.specs.Diagnoses.{Remark, Diagnosis, path_of}
use Rattle.ot_file_diagnosis.specs.Codes.{severity_text, code_text}
use Rattle.ot_file_diagnosis.specs.Escapes.{uri_text}
use Rattle.ot_file_diagnosis.specs.Values.{nat, json_list}
use Rattle.ot_file_diagnosis.specs.declared.diagnosis.Code.{Code}
use Rattle.ot_file_diagnosis.specs.declared.diagnosis.Code.TheVariants.{Race, Lifetime, MoreRaces, Outside, OnlyRun, AsIf, Refused, Answered, Long, Full}
use Rattle.ot_file_diagnosis.specs.declared.diagnosis.Place.{Place}

-- an object with one member
abbrev pub only : List ℕ → Data → Data
only key value = object (put key value no_members)

abbrev pub words_value : List ℕ → Data
words_value words = only (codes "text") (string words)

-- ---- places

abbrev pub region_value : Place → Data
region_value p = object (put (codes "startColumn") (nat p.position.column) (put (codes "startLine") (nat p.position.line) no_members))

abbrev pub with_region : Option Place → Members → Members
with_region None ms = ms
with_region (Some p) ms = put (codes "region") (region_value p) ms

-- a file, and a line and a column of it where there is a place
abbrev pub physical_value : List ℕ → Option Place → Data
physical_value uri place = object (with_region place (put (codes "artifactLocation") (only (codes "uri") (string uri)) no_members))

abbrev pub places_value : List ℕ → Option Place → Data
places_value uri place = json_list (only (codes "physicalLocation") (physical_value uri place) ∷ [])

-- a note of a file of this name
abbrev pub related_value : List ℕ → Remark → Data
related_value name note =
    object (put (codes "message") (words_value note.message) (put (codes "physicalLocation") (physical_value (uri_text (path_of name note)) note.place) no_members))

-- ---- a result

-- with its places and its notes
abbrev pub with_places : List ℕ → Diagnosis → Members → Members
with_places name d ms =
    put (codes "relatedLocations") (json_list (map (related_value name) d.notes))
    (put (codes "locations") (places_value (uri_text (path_of name d.told)) d.told.place) ms)

abbrev pub result_value : List ℕ → Diagnosis → Data
result_value name d =
    object (with_places name d
    (put (codes "message") (words_value d.told.message) (put (codes "level") (string (severity_text d.severity)) (put (codes "ruleId") (string (code_text d.code)) no_members))))

-- ---- the document

abbrev pub meaning_text : Code → List ℕ
meaning_text Race = codes "Two touches of a cell race"
meaning_text Lifetime = codes "A task may touch what has ended"
meaning_text MoreRaces = codes "More races than are told"
meaning_text Outside = codes "The file isn't judged"
meaning_text OnlyRun = codes "Only the run with these numbers was judged"
meaning_text AsIf = codes "What the verdict takes for granted"
meaning_text (Refused number) = codes "omptaskd refuses the program"
meaning_text (Answered number) = codes "omptaskd refuses the request"
meaning_text Long = codes "The request has too many bytes"
meaning_text Full = codes "The log has no room for the request"

abbrev pub rule_value : Code → Data
rule_value kind =
    object (put (codes "shortDescription") (words_value (meaning_text kind)) (put (codes "id") (string (code_text kind)) no_members))

-- what may be told of a text in C
abbrev pub kinds : List Code
kinds = Race ∷ Lifetime ∷ MoreRaces ∷ Outside ∷ OnlyRun ∷ AsIf ∷ Refused 425 ∷ Refused 426 ∷ Refused 427 ∷ Refused 428 ∷ Refused 429 ∷ []

abbrev pub driver_value : Data
driver_value = object (put (codes "rules") (json_list (map rule_value kinds)) (put (codes "name") (string (codes "omptask")) no_members))

-- columns count characters
abbrev pub run_value : List Data → Data
run_value results =
    object (put (codes "results") (json_list results)
    (put (codes "columnKind") (string (codes "unicodeCodePoints")) (put (codes "tool") (only (codes "driver") driver_value) no_members)))

abbrev pub document_value : List Data → Data
document_value results =
    object (put (codes "runs") (json_list (run_value results ∷ []))
    (put (codes "version") (string (codes "2.1.0")) (put (codes "$schema") (string (codes "https://json.schemastore.org/sarif-2.1.0.json")) no_members)))
