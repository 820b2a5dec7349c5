-- At which statements the notes behind a refusal stand.
use Rattle.std.specs.Prelude.{◌≡◌, [], ℕ, Bool, true, false, List, ◌∷◌, ◌++◌, map, codes, Option, Some, None, option_and_then, All}
use Rattle.std.specs.Fmt.{decimal}
use Rattle.serde_json.specs.Data.{Data}
use Rattle.ot_file_diagnosis.specs.Diagnoses.{Remark, Diagnosis}
use Rattle.ot_file_diagnosis.specs.declared.diagnosis.Code.{Code}
use Rattle.ot_file_diagnosis.specs.declared.diagnosis.Code.TheVariants.{Answered, Long, Full}
use Rattle.ot_file_diagnosis.specs.declared.diagnosis.Place.{Place}
use Rattle.ot_file_diagnosis.specs.declared.diagnosis.Severity.TheVariants.{Error}
use Rattle.ot_why_reason.specs.Sentences.{sentence_of}
use Rattle.ot_file_judge.specs.Judging.{Refusal, told_in, IsPlaced, statement_place}
use Rattle.ot_book.specs.Answers.{code_in}
use Rattle.ot_model.specs.Programs.{Expanded}
use Rattle.ot_model.specs.Tree.{Body}
use Rattle.ot_check.specs.Offences.{code_of, Offends}
use Rattle.ot_check.specs.declared.fault.Offence.{Offence}
use Rattle.ot_why_blame.specs.Races.{IsNamed}
use Rattle.ot_store.specs.Arrays.{shape_in}
use Rattle.ot_book.specs.Books.{Register, last_told}
use Rattle.ot_book.specs.Answers as r
use Rattle.ot_why_reason.specs.Runs.{run_of}

-- of an offence: at the statement that the reply counts, and at the one that is named beside it; at none only where there is no offence
abbrev pub StandAt : Body → ℕ → Offence → List (Option ℕ) → Type 0
StandAt body number offence [] = Offends body number offence → ⊥
StandAt body number offence (first ∷ others) = (first ≡ Some number) × (other : Option ℕ) × (others ≡ other ∷ []) × IsNamed body number offence other

-- the same of the program that a request runs
abbrev pub StandIn : Option Expanded → ℕ → ℕ → List (Option ℕ) → Type 0
StandIn None code number stands = Unit {0}
StandIn (Some program) code number stands = (offence : Offence) × (code_of offence ≡ code) × StandAt program.body number offence stands

-- of other refusals: where the request is refused
abbrev pub NamesBy : Register → Option Data → Option r.Told → List (Option ℕ) → Type 0
NamesBy book request (Some (r.Offends code number)) stands =
    StandIn (option_and_then (run_of (shape_in book.limits book.store)) request) code number stands
NamesBy book request told stands = All (λ stand. stand ≡ None) stands

abbrev pub NamesIn : Option Register → Option Data → List (Option ℕ) → Type 0
NamesIn None request stands = stands ≡ []
NamesIn (Some book) request stands = NamesBy book request (last_told book) stands

-- behind a full log stands none
abbrev pub Names : Refusal → List (Option ℕ) → Type 0
Names one stands = NamesIn one.book one.request stands

-- What is told of a file whose requests were judged: a diagnosis for each refusal, with its notes.

-- a code, and what it means; a full log has none, and a line that is too long
abbrev pub words_of_code : Bool → Option ℕ → List ℕ
words_of_code true code = codes "long: without its white space the line has more than 65536 bytes; behind it nothing is answered"
words_of_code false (Some code) = decimal code ++ (codes ": " ++ sentence_of code)
words_of_code false None = codes "full: the log has no room for this request; a checkpoint begins it anew"

abbrev pub kind_of : Bool → Option ℕ → Code
kind_of true code = Long
kind_of false (Some code) = Answered code
kind_of false None = Full

-- words at a place
abbrev pub remark : Place → List ℕ → Remark
remark place words = record { place = Some place; file = None; turns = []; message = words }

-- a refusal at this place, with its notes
abbrev pub refusal_at : Place → Bool → Option ℕ → List Remark → Diagnosis
refusal_at place long code notes = record { severity = Error; code = kind_of long code; told = remark place (words_of_code long code); notes = notes }

-- a note stands at the statement of this number, or where the request is refused
abbrev pub note_place : Option Data → List ℕ → ℕ → ℕ → Place → Option ℕ → Place
note_place request blank start end p None = p
note_place request blank start end p (Some number) = statement_place request blank start end number

-- notes, each at its statement, with its words
abbrev pub notes_told : Option Data → List ℕ → ℕ → ℕ → Place → List (Option ℕ × List ℕ) → List Remark
notes_told request blank start end p notes = map (λ note. remark (note_place request blank start end p note.0) note.1) notes

-- the notes behind a refusal that is placed here: they stand at the statements that are named
pub record AreNotes (blank : List ℕ) (one : Refusal) (p : Place) (told : List Remark) : Type 0 where
  pub notes : List (Option ℕ × List ℕ)
  pub names : Names one (map (λ note. note.0) notes)
  pub is : told ≡ notes_told one.request blank one.start one.end p notes

-- a refusal that is placed here is told by its code, with its notes
abbrev pub IsTold : List ℕ → Refusal → Place → Diagnosis → Type 0
IsTold blank one p found =
    (notes : List Remark) × AreNotes blank one p notes × (found ≡ refusal_at p one.is_long (option_and_then code_in (told_in one)) notes)

-- each refusal where it is placed
abbrev pub Reports : List ℕ → List Refusal → List Diagnosis → Type 0
Reports blank [] found = found ≡ []
Reports blank (one ∷ others) found =
    (p : Place) × (first : Diagnosis) × (later : List Diagnosis) × IsPlaced blank one p × IsTold blank one p first × (found ≡ first ∷ later) × Reports blank others later
