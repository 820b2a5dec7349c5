-- At which statements notes stand.
use Rattle.std.proofs.Common.{◌≡◌, ℕ, List, [], ◌∷◌, map, refl, sym, ap, subst}
use Rattle.std.specs.Prelude.{Option, Some}
use Rattle.ot_model.specs.Programs.{Expanded}
use Rattle.ot_check.specs.Offences.{code_of, Offends}
use Rattle.ot_check.specs.declared.fault.Offence.{Offence}
use Rattle.ot_file_report.specs.Report.{StandAt, StandIn}
use Rattle.ot_file_report.specs.NoteView.{note_by, stands_of}
use Rattle.ot_file_report.specs.declared.note.Note.{Note}

-- ---- programs

pub stand_some : (o : Option Expanded) (p : Expanded) (code number : ℕ) (offence : Offence) (stands : List (Option ℕ)) → Some p ≡ o → code_of offence ≡ code → StandAt p.body number offence stands →
    StandIn o code number stands
stand_some o p code number offence stands is code_is h = subst (λ q. StandIn q code number stands) is (offence, code_is, h)

-- the statement has no such offence
pub no_blame : (o : Option Expanded) (p : Expanded) (number : ℕ) (offence : Offence) (stands : List (Option ℕ)) → Some p ≡ o → stands ≡ [] → (Offends p.body number offence → ⊥) →
    StandIn o (code_of offence) number stands
no_blame o p number offence stands is none h = stand_some o p (code_of offence) number offence stands is refl (subst (λ s. StandAt p.body number offence s) (sym none) h)

-- ---- notes of the code

pub stands-notes : (notes : List Note) → map (λ (n : Option ℕ × List ℕ). n.0) (map note_by notes) ≡ stands_of notes
stands-notes [] = refl
stands-notes (n ∷ notes) = ap (λ stands. n.number ∷ stands) (stands-notes notes)
