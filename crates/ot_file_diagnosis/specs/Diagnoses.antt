-- What is found in a file.
use Rattle.std.specs.Prelude.{ℕ, List, Option, Some, None}
use Rattle.ot_file_text.specs.Positions.{position_of}
use Rattle.ot_file_diagnosis.specs.declared.diagnosis.Code.{Code}
use Rattle.ot_file_diagnosis.specs.declared.diagnosis.Place.{Place}
use Rattle.ot_file_diagnosis.specs.declared.diagnosis.Severity.{Severity}

-- the byte of a text that has so many before it, or the one behind the text
abbrev pub place_in : List ℕ → ℕ → Place
place_in text byte = record { byte = byte; position = position_of text byte }

-- what is said of a place in a file, or of the whole file; with the turns of the loops around the place, the outermost first; and, where
-- the place is in a file that the one that is judged includes, its path and how many bytes stand before it in the text that is shown
pub record Remark : Type 0 where
  pub place : Option Place
  pub file : Option (List ℕ × ℕ)
  pub turns : List (List ℕ × ℕ)
  pub message : List ℕ

-- the path of its file, where the one that is judged has this name
abbrev pub path_in : List ℕ → Option (List ℕ × ℕ) → List ℕ
path_in name None = name
path_in name (Some file) = file.0

abbrev pub path_of : List ℕ → Remark → List ℕ
path_of name r = path_in name r.file

-- how many bytes stand before its file in the text that is shown
abbrev pub from_in : Option (List ℕ × ℕ) → ℕ
from_in None = 0
from_in (Some file) = file.1

abbrev pub from_of : Remark → ℕ
from_of r = from_in r.file

-- what is found, and what else is said of it
pub record Diagnosis : Type 0 where
  pub severity : Severity
  pub code : Code
  pub told : Remark
  pub notes : List Remark
