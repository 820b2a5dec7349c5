-- What is told of a C text.
use Rattle.std.specs.Prelude.{◌≡◌, ℕ, Bool, true, false, ◌==◌, List, [], ◌∷◌, ◌++◌, map, reverse, codes, if◌then◌else◌, Option, Some, None, option_map, Result, Ok, Err}
use Rattle.std.specs.Fmt.{decimal}
use Rattle.serde_json.specs.Data.{Data, string, array, no_items, item}
use Rattle.serde_json.specs.View.{view}
use Rattle.ot_model.specs.Programs.{Expanded}
use Rattle.ot_model.specs.Tree.{Body}
use Rattle.ot_model.specs.declared.stmt.Mode.{Mode}
use Rattle.ot_model.specs.declared.stmt.Mode.TheVariants.{Reads, Writes, Folds}
use Rattle.ot_model.specs.declared.stmt.Use.{Use}
use Rattle.ot_check.specs.Offences.{code_of, Offends, IsFirstOf}
use Rattle.ot_check.specs.declared.fault.Offence.{Offence}
use Rattle.ot_check.specs.declared.fault.Offence.TheVariants.{NotDeclared, ChildBeyond, ReductionMisuse, ConflictsWithChild, EndsWithChildren}
use Rattle.ot_file_diagnosis.specs.Diagnoses.{Remark, Diagnosis}
use Rattle.ot_file_diagnosis.specs.DiagnosisView.{diagnosis_by}
use Rattle.ot_file_diagnosis.specs.Texts.{place_text}
use Rattle.ot_file_diagnosis.specs.declared.diagnosis.Code.{Code}
use Rattle.ot_file_diagnosis.specs.declared.diagnosis.Code.TheVariants as code
use Rattle.ot_file_diagnosis.specs.declared.diagnosis.Place.{Place}
use Rattle.ot_file_diagnosis.specs.declared.diagnosis.Severity.{Severity}
use Rattle.ot_file_diagnosis.specs.declared.diagnosis.Severity.TheVariants.{Error, Note}
use Rattle.ot_program.specs.Programs.{program_of}
use Rattle.ot_program.specs.declared.fault.Refusal.{Refusal}
use Rattle.ot_race.specs.declared.race.Race.{Race}
use Rattle.ot_race_all.specs.declared.races.More.{More}
use Rattle.ot_race_all.specs.declared.races.More.TheVariants.{Exactly, AtLeast}
use Rattle.ot_race_all.specs.declared.races.Races.{Races}
use Rattle.ot_c_judge.specs.Doing.{done_at}
use Rattle.ot_c_overlap.specs.Items.{items_of, ground}
use Rattle.ot_c_overlap.specs.Overlaps.{IsFirst}
use Rattle.ot_race_order.specs.declared.order.Order.{Order}
use Rattle.ot_race_order.specs.declared.order.Order.TheVariants.{OfLanguage, OfC, OfCByPointers}
use Rattle.ot_c_judge.specs.Start.{array_names_of, shape_of, starting_cells}
use Rattle.ot_c_judge.specs.Sites.{Source, Site, site_of}
use Rattle.ot_c_judge.specs.Lines.{turns_text, c_cell_text}
use Rattle.ot_c_judge.specs.Lacks.{lacks}
use Rattle.ot_c_judge.specs.Findings.{Finds}
use Rattle.ot_c_judge.specs.declared.finding.Finding.{Finding}
use Rattle.ot_c_judge.specs.declared.finding.Finding.TheVariants.{InRun, OnWay, Nowhere, OnlyRun}
use Rattle.ot_c_judge.specs.declared.c_program.CProgram.{CProgram}
use Rattle.ot_c_judge.specs.declared.report.Report.{Report}
use Rattle.ot_c_judge.specs.declared.report.Verdict.{Verdict}
use Rattle.ot_c_judge.specs.declared.report.Verdict.TheVariants as v

-- ---- a race

-- words about a site, with its turns
abbrev pub at_site : Site → List ℕ → Remark
at_site site message = record { place = Some site.place; file = None; turns = reverse site.turns; message = message }

-- what has no notes
abbrev pub without_notes : Severity → Code → Remark → Diagnosis
without_notes severity kind told = record { severity = severity; code = kind; told = told; notes = [] }

-- `m[5] is written here while it may be read at NAME:LINE:COLUMN (i = 1, j = 2)`, with the turns of the touch here
abbrev pub here_words : List ℕ → List ℕ → Site → List ℕ → Site → List ℕ → List ℕ
here_words name cell here one other two =
    cell ++ (codes " is " ++ (one ++ (codes " here while it may be " ++ (two ++ (codes " at " ++ (place_text name (Some other.place) ++ turns_text here.turns))))))

abbrev pub here_told : List ℕ → List ℕ → Site → List ℕ → Site → List ℕ → Remark
here_told name cell here one other two = at_site here (here_words name cell here one other two)

-- what is known of the two: in the run nothing orders them; or an `if` may go so that both touch the cell and nothing does
abbrev pub in_run : List ℕ
in_run = codes "with these numbers nothing orders the two"

abbrev pub on_path : List ℕ
on_path = codes "some path has both"

-- `the other touch (i = 0, j = 2); with these numbers nothing orders the two`
abbrev pub other_told : Site → List ℕ → Remark
other_told other known = at_site other (codes "the other touch" ++ (turns_text other.turns ++ (codes "; " ++ known)))

-- what is said of a race whose touches stand at these sites
abbrev pub race_told : Source → Body → Site → Site → Race → Remark
race_told s body here other told =
    here_told s.name (c_cell_text s.arrays told.cell) here (done_at body told.later told.cell) other (done_at body told.place told.cell)

-- the touch that comes later in the serial run, and the other one as its note
abbrev pub race_diagnosis : Remark → Site → List ℕ → Diagnosis
race_diagnosis told other known = record { severity = Error; code = code.Race; told = told; notes = other_told other known ∷ [] }

abbrev pub race_found : Source → Body → List ℕ → Race → Diagnosis
race_found s body known told = race_diagnosis (race_told s body (site_of s told.later) (site_of s told.place) told) (site_of s told.place) known

-- words about the whole file
abbrev pub of_file : Code → List ℕ → Diagnosis
of_file kind message = without_notes Note kind (record { place = None; file = None; turns = []; message = message })

-- `3 more races`, where they aren't told
abbrev pub is_none : More → Bool
is_none (Exactly count) = count == 0
is_none (AtLeast count) = false

abbrev pub more_words : More → List ℕ
more_words (Exactly count) = if count == 1 then codes "1 more race" else decimal count ++ codes " more races"
more_words (AtLeast count) = codes "at least " ++ (decimal count ++ codes " more races")

abbrev pub more_found : More → List Diagnosis
more_found more = if is_none more then [] else of_file code.MoreRaces (more_words more) ∷ []

abbrev pub races_found : Source → Body → Races → List Diagnosis
races_found s body races = map (race_found s body in_run) races.told.items ++ more_found races.more

-- ---- what the server would refuse

-- the kind of a dependence that allows such a use
abbrev pub kind_text : Mode → List ℕ
kind_text Reads = codes "in"
kind_text Writes = codes "out"
kind_text (Folds o) = codes "inout"

-- `depend(in: m[5])`
abbrev pub lacking_clause : List (List ℕ × ℕ) → Option Use → List ℕ
lacking_clause arrays None = codes "a clause"
lacking_clause arrays (Some u) = codes "depend(" ++ (kind_text u.mode ++ (codes ": " ++ (c_cell_text arrays u.cell ++ codes ")")))

-- what is to be done about it
abbrev pub advice : List (List ℕ × ℕ) → Offence → Option Use → List ℕ
advice arrays NotDeclared lacking = codes "the task lacks " ++ lacking_clause arrays lacking
advice arrays ChildBeyond lacking = codes "the task around this one lacks " ++ lacking_clause arrays lacking
advice arrays ReductionMisuse lacking = codes "a reduction is misused"
advice arrays ConflictsWithChild lacking = codes "a taskwait is missing before this, for a child that may use the same"
advice arrays EndsWithChildren lacking = codes "a taskwait is missing at the end of the task, for a child of it"

-- what is known of races: no way has one; or the run has none, and other ways aren't known
abbrev pub no_race : List ℕ
no_race = codes "no race"

abbrev pub none_in_run : List ℕ
none_in_run = codes "with these numbers nothing races"

-- `no race, but omptaskd refuses it: the task lacks depend(in: m[5]) (i = 1, j = 2)`
abbrev pub refused_words : Site → List ℕ → List ℕ → List ℕ
refused_words site known words = known ++ (codes ", but omptaskd refuses it: " ++ (words ++ turns_text site.turns))

abbrev pub refusal_note : Site → List ℕ → List ℕ → ℕ → Diagnosis
refusal_note site known words number = without_notes Note (code.Refused number) (at_site site (refused_words site known words))

-- of the first offence; nothing where there is none
abbrev pub refusals : Source → Body → List ℕ → Option (ℕ × Offence) → List Diagnosis
refusals s body known None = []
refusals s body known (Some first) =
    refusal_note (site_of s first.0) known (advice s.arrays first.1 (lacks body first.0 first.1)) (code_of first.1) ∷ []

abbrev pub TellsRefusal : Source → Body → List ℕ → List Diagnosis → Type 0
TellsRefusal s body known found = (first : Option (ℕ × Offence)) × IsFirstOf (Offends body) first × (found ≡ refusals s body known first)

-- ---- where there are too many ways

abbrev pub only_run : Diagnosis
only_run = of_file code.OnlyRun (codes "only the run with these numbers was judged: there are too many paths")

-- ---- what isn't judged

abbrev pub outside_error : Place → List ℕ → Diagnosis
outside_error place reason = without_notes Error code.Outside (record { place = Some place; file = None; turns = []; message = reason })

-- ---- the whole

-- of what is found
abbrev pub ReportsFinding : Source → Body → Finding → Verdict → List Diagnosis → Type 0
ReportsFinding s body (InRun races) verdict found = (verdict ≡ v.Races) × (found ≡ races_found s body races)
ReportsFinding s body (OnWay race) verdict found = (verdict ≡ v.Races) × (found ≡ race_found s body on_path race ∷ [])
ReportsFinding s body Nowhere verdict found = (verdict ≡ v.Clean) × TellsRefusal s body no_race found
ReportsFinding s body OnlyRun verdict found =
    (verdict ≡ v.OnlyRun) × (refusal : List Diagnosis) × TellsRefusal s body none_in_run refusal × (found ≡ refusal ++ only_run ∷ [])

-- of a program that begins with these cells
abbrev pub ReportsRun : Source → List (List ℕ) → Body → Verdict → List Diagnosis → Type 0
ReportsRun s cells body verdict found = (finding : Finding) × Finds s.order body cells finding × ReportsFinding s body finding verdict found

-- whether `red` is an item of a `depend` clause: where tasks take part in reductions by pointers it stands for `depend(in: ..)` too
abbrev pub has_red_items : Order → Bool
has_red_items OfLanguage = false
has_red_items OfC = false
has_red_items OfCByPointers = true

-- what is told of a text that is judged, its verdict and what is found; nothing of one that isn't
abbrev pub Told : Type 0
Told = Option (Verdict × List Diagnosis)

abbrev pub told_by : Option Report → Told
told_by told = option_map (λ report. (report.verdict, map diagnosis_by report.found.items)) told

-- a verdict is told, and what is found, and they are so
abbrev pub TellsReport : (Verdict → List Diagnosis → Type 0) → Told → Type 0
TellsReport are_so None = ⊥
TellsReport are_so (Some told) = are_so told.0 told.1

-- Of one of which an item of a `depend` clause overlaps in part with one that writes nothing is told: C doesn't say how they order.
abbrev pub ReportsItems : Source → List (List ℕ) → Body → Option ℕ → Told → Type 0
ReportsItems s cells body (Some entry) told = told ≡ None
ReportsItems s cells body None told = TellsReport (ReportsRun s cells body) told

abbrev pub ReportsProgram : Source → List (List ℕ) → Body → Told → Type 0
ReportsProgram s cells body told =
    (first : Option ℕ) × IsFirst (items_of (ground s.arrays (has_red_items s.order)) s.request) first × ReportsItems s cells body first told

-- the request that runs a program
abbrev pub run_of : Data → Data
run_of program = array (item (string (codes "run")) (item program no_items))

-- of a program that was read; nothing of one that wasn't
abbrev pub ReportsRead : Source → List (List ℕ) → Result Expanded Refusal → Told → Type 0
ReportsRead s cells (Ok program) told = ReportsProgram s cells program.body told
ReportsRead s cells (Err refusal) told = told ≡ None

abbrev pub source_of : List ℕ → List ℕ → CProgram → Source
source_of name text lowered =
    record { name = name; text = text; request = run_of (view lowered.program); arrays = array_names_of lowered.arrays.items; bytes = lowered.places.items; order = lowered.order }

-- of what stands for a C text
abbrev pub Reports : List ℕ → List ℕ → CProgram → Told → Type 0
Reports name text lowered told =
    ReportsRead (source_of name text lowered) (starting_cells lowered.arrays.items) (program_of (shape_of lowered.arrays.items) (view lowered.program)) told
