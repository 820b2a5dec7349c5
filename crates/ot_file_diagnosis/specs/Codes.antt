-- What severities and codes are called.
use Rattle.std.specs.Prelude.{ℕ, List, codes}
use Rattle.std.specs.Fmt.{decimal}
use Rattle.ot_file_diagnosis.specs.declared.diagnosis.Code.{Code}
use Rattle.ot_file_diagnosis.specs.declared.diagnosis.Code.TheVariants.{Race, Lifetime, MoreRaces, Outside, OnlyRun, AsIf, Refused, Answered, Long, Full}
use Rattle.ot_file_diagnosis.specs.declared.diagnosis.Severity.{Severity}
use Rattle.ot_file_diagnosis.specs.declared.diagnosis.Severity.TheVariants.{Error, Note}

abbrev pub severity_text : Severity → List ℕ
severity_text Error = codes "error"
severity_text Note = codes "note"

abbrev pub code_text : Code → List ℕ
code_text Race = codes "race"
code_text Lifetime = codes "lifetime"
code_text MoreRaces = codes "more-races"
code_text Outside = codes "outside"
code_text OnlyRun = codes "only-run"
code_text AsIf = codes "as-if"
code_text (Refused number) = decimal number
code_text (Answered number) = decimal number
code_text Long = codes "long"
code_text Full = codes "full"
