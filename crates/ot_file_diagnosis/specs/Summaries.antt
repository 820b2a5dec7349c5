-- How many files ended how, in one line.
use Rattle.std.specs.Prelude.{ℕ, ◌==◌, Bool, true, false, List, [], ◌∷◌, ◌++◌, length, count_by, codes, if◌then◌else◌}
use Rattle.std.specs.Fmt.{decimal}
use Rattle.ot_file_diagnosis.specs.declared.summary.Outcome.{Outcome}
use Rattle.ot_file_diagnosis.specs.declared.summary.Outcome.TheVariants.{Races, Refused, Outside, OnlyRun, Clean, Taken}

abbrev pub is_same : Outcome → Outcome → Bool
is_same Races Races = true
is_same Refused Refused = true
is_same Outside Outside = true
is_same OnlyRun OnlyRun = true
is_same Clean Clean = true
is_same Taken Taken = true
is_same one other = false

-- what is said of one file, or of several
abbrev pub phrase : Outcome → Bool → List ℕ
phrase Races true = codes "races"
phrase Races false = codes "race"
phrase Refused true = codes "has refused requests"
phrase Refused false = codes "have refused requests"
phrase Outside true = codes "isn't judged"
phrase Outside false = codes "aren't judged"
phrase OnlyRun true = codes "has no race in its run"
phrase OnlyRun false = codes "have no race in their runs"
phrase Clean true = codes "has no race"
phrase Clean false = codes "have no race"
phrase Taken true = codes "is accepted"
phrase Taken false = codes "are accepted"

-- `, 2 race`, where something stands before, else `: 2 race`
abbrev pub part_text : Bool → ℕ → Outcome → List ℕ
part_text later count kind = (if later then codes ", " else codes ": ") ++ (decimal count ++ (codes " " ++ phrase kind (count == 1)))

-- of each of these kinds, where there are some
abbrev pub parts_text : List Outcome → Bool → List Outcome → List ℕ
parts_text outcomes later [] = []
parts_text outcomes later (kind ∷ others) =
    let count = count_by (is_same kind) outcomes in
    if count == 0 then parts_text outcomes later others else part_text later count kind ++ parts_text outcomes true others

-- `3 files: 1 races, 1 isn't judged, 1 has no race`
abbrev pub summary_text : List Outcome → List ℕ
summary_text outcomes =
    decimal (length outcomes) ++ (codes " " ++ ((if length outcomes == 1 then codes "file" else codes "files")
    ++ (parts_text outcomes false (Races ∷ Refused ∷ Outside ∷ OnlyRun ∷ Clean ∷ Taken ∷ []) ++ codes "\n")))
