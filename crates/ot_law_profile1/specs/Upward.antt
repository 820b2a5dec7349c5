-- A program of the first profile as one of the second, whose folds and groups are all by `+`; and what is kept of its meaning.
use Rattle.std.specs.Prelude.{◌≡◌, List, map, None, ℕ, Bool, true, false, Result, Ok, Err, codes, ◌↔◌, Option}
use Rattle.ot_model.specs.Tree.{S, Set, Fold, If, Task, Wait, Group, Body, End, Next, size, tasks_in}
use Rattle.ot_model.specs.Serial.{State, serial}
use Rattle.ot_model.specs.Programs.{Expanded, Arrays}
use Rattle.ot_model.specs.declared.fold.Fold.TheVariants.{Plus}
use Rattle.ot_model.specs.declared.stmt.Mode.{Mode}
use Rattle.ot_model.specs.declared.stmt.Mode.TheVariants.{Reads, Writes, Folds}
use Rattle.ot_model.specs.declared.stmt.Use.{Use}
use Rattle.ot_law_profile1.specs.Tree.{Mode1, Reads1, Writes1, Adds1, Use1, S1, Set1, Add1, If1, Task1, Wait1, Group1, Body1, End1, Next1, size1, tasks_in1, Expanded1}
use Rattle.ot_law_profile1.specs.Serial.{serial1}
use Rattle.serde_json.specs.Data.{Data, array, item}
use Rattle.ot_program.specs.Meanings.{is_word}
use Rattle.ot_program.specs.Programs.{program_of}
use Rattle.ot_program.specs.declared.fault.Refusal.{Refusal}
use Rattle.ot_law_profile1.specs.Programs.{program_of1}
use Rattle.ot_check.specs.Offences.{Mark, Touch, Create, Await, Enter, Leave, Step, At, Offends, IsFirstOf}
use Rattle.ot_check.specs.Laws.{first_offence}
use Rattle.ot_check.specs.declared.fault.Offence.{Offence}
use Rattle.ot_law_profile1.specs.Offences.{Mark1, Touch1, Create1, Await1, Enter1, Leave1, Step1, At1, Offends1}

abbrev pub up_mode : Mode1 → Mode
up_mode Reads1 = Reads
up_mode Writes1 = Writes
up_mode Adds1 = Folds Plus

abbrev pub up_use : Use1 → Use
up_use u = record { cell = u.cell; mode = up_mode u.mode }

abbrev pub up_uses : List Use1 → List Use
up_uses uses = map up_use uses

abbrev mutual
  pub up_one : S1 → S
  up_one (Set1 c e) = Set c e
  up_one (Add1 c e) = Fold Plus c e
  up_one (If1 e a b) = If e (up a) (up b)
  up_one (Task1 d b) = Task (up_uses d) (up b)
  up_one Wait1 = Wait None
  up_one (Group1 cs b) = Group Plus cs (up b)

  pub up : Body1 → Body
  up End1 = End
  up (Next1 x rest) = Next (up_one x) (up rest)

abbrev pub up_program : Expanded1 → Expanded
up_program p = record { shows = p.shows; body = up p.body; statements = p.statements; tasks = p.tasks }

-- ---- what is kept

-- a body leaves the cells and counts that it left
abbrev pub SerialIsKept : Type 0
SerialIsKept = (b : Body1) (s : State) → serial (up b) s ≡ serial1 b s

-- and has as many statements and task statements as it had
abbrev pub CountsAreKept : Type 0
CountsAreKept = (b : Body1) → (size (up b) ≡ size1 b) × (tasks_in (up b) ≡ tasks_in1 b)

-- What is kept of the reading: a text of the first profile reads as it did.

-- what was read, as a program of the second profile; a refusal stays as it is
abbrev pub up_read : Result Expanded1 Refusal → Result Expanded Refusal
up_read (Ok program) = Ok (up_program program)
up_read (Err c) = Err c

-- whether a text is a list that begins with this word
abbrev pub begins_with : Data → List ℕ → Bool
begins_with (array (item t ds)) word = is_word t word
begins_with _ word = false

-- whatever doesn't begin with the word of the second profile is read as it was: the same program, or the same fault
abbrev pub ReadingIsKept : Type 0
ReadingIsKept =
    (shape : Arrays) (d : Data) → begins_with d (codes "program2") ≡ false → program_of shape d ≡ up_read (program_of1 shape d)

-- so is each text that begins with the word of the first
abbrev pub FirstIsNotSecond : Type 0
FirstIsNotSecond = (d : Data) → begins_with d (codes "program") ≡ true → begins_with d (codes "program2") ≡ false

-- What is kept of the offences of programs of the first profile, read as programs of the second.

abbrev pub up_mark : Mark1 → Mark
up_mark (Touch1 u) = Touch (up_use u)
up_mark (Create1 d) = Create (up_uses d)
up_mark Await1 = Await None
up_mark (Enter1 cs) = Enter Plus cs
up_mark Leave1 = Leave

abbrev pub up_step : Step1 → Step
up_step (At1 k mark) = At k (up_mark mark)

abbrev pub up_path : List Step1 → List Step
up_path path = map up_step path

-- ---- what is kept

-- a body offends where it offended, and in the same way
abbrev pub OffencesAreKept : Type 0
OffencesAreKept = (b : Body1) (place : ℕ) (offence : Offence) → Offends (up b) place offence ↔ Offends1 b place offence

-- its first offence, as the second profile has it, is the first of those that it had, and no other value is
abbrev pub FirstOffenceIsKept : Type 0
FirstOffenceIsKept =
    (b : Body1) → IsFirstOf (Offends1 b) (first_offence (up b))
    × ((told : Option (ℕ × Offence)) → IsFirstOf (Offends1 b) told → told ≡ first_offence (up b))
