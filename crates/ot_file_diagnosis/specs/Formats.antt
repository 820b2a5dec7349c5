-- What is found in files, in the format that is asked for.
use Rattle.std.specs.Prelude.{ℕ, List, [], ◌∷◌, ◌++◌, flat_map, codes}
use Rattle.serde_json.specs.Data.{Data}
use Rattle.serde_json.specs.Written.{compact_text}
use Rattle.ot_file_diagnosis.specs.Annotations.{annotation_text}
use Rattle.ot_file_diagnosis.specs.Diagnoses.{Diagnosis}
use Rattle.ot_file_diagnosis.specs.Sarif.{document_value}
use Rattle.ot_file_diagnosis.specs.Texts.{diagnosis_text}
use Rattle.ot_file_diagnosis.specs.Values.{diagnosis_value}
use Rattle.ot_file_diagnosis.specs.declared.diagnosis.Code.{Code}
use Rattle.ot_file_diagnosis.specs.declared.diagnosis.Code.TheVariants.{Refused}
use Rattle.ot_file_diagnosis.specs.declared.format.Format.{Format}
use Rattle.ot_file_diagnosis.specs.declared.format.Format.TheVariants.{Text, Json, Sarif, Github}

-- a value on a line
abbrev pub value_line : List ℕ → Diagnosis → List ℕ
value_line name d = compact_text (diagnosis_value name d) ++ codes "\n"

-- a diagnosis of a file of this name with these bytes; SARIF has one document for all
abbrev pub one_text : Format → List ℕ → List ℕ → Diagnosis → List ℕ
one_text (Text paint) name text d = diagnosis_text paint name text d
one_text Json name text d = value_line name d
one_text Sarif name text d = []
one_text Github name text d = annotation_text name d

abbrev pub found_text : Format → List ℕ → List ℕ → List Diagnosis → List ℕ
found_text format name text found = flat_map (one_text format name text) found

abbrev pub document_text : List Data → List ℕ
document_text results = compact_text (document_value results) ++ codes "\n"

-- what is kept where what a server refuses isn't told
abbrev pub kept_by : Code → Diagnosis → List Diagnosis
kept_by (Refused number) d = []
kept_by other d = d ∷ []

abbrev pub kept_if_told : Diagnosis → List Diagnosis
kept_if_told d = kept_by d.code d

abbrev pub without_refusals : List Diagnosis → List Diagnosis
without_refusals found = flat_map kept_if_told found
