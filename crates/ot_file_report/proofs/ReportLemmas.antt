-- A report that goes on from refusal to refusal.
use Rattle.std.proofs.Common.{◌≡◌, ℕ, List, [], ◌∷◌, ◌++◌, map, refl, sym, ap, ◌∙◌, subst, append_assoc, append-nil}
use Rattle.std.specs.Prelude.{option_map}
use Rattle.serde_json.specs.View.{view}
use Rattle.ot_file_diagnosis.specs.Diagnoses.{Remark, Diagnosis}
use Rattle.ot_file_diagnosis.specs.declared.diagnosis.Place.{Place}
use Rattle.ot_file_judge.specs.Judging.{Refusal, told_in, IsPlaced, Standing, Goes, IsSeen}
use Rattle.ot_file_judge.specs.declared.findings.Finding.{Finding}
use Rattle.ot_file_report.specs.Report.{Names, refusal_at, notes_told, AreNotes, IsTold, Reports}
use Rattle.ot_file_report.specs.NoteView.{note_by, stands_of}
use Rattle.ot_file_report.specs.declared.note.Note.{Note}
use Rattle.ot_file_report.proofs.NoteLemmas.{stands-notes}

-- What was told is the report on the first of all the refusals; the others are still to come.
pub record Reporting (blank : List ℕ) (all : List Refusal) (s : Standing) (found : List Diagnosis) : Type 0 where
  pub behind : List Refusal
  pub goes : Goes behind s
  pub is : (later : List Diagnosis) → Reports blank behind later → Reports blank all (found ++ later)

pub reporting_more : {blank : List ℕ} {all : List Refusal} {s : Standing} {found : List Diagnosis} → (r : Reporting blank all s found) →
    (one : Refusal) (behind : List Refusal) (new : Standing) (p : Place) (next : Diagnosis) (more : List Diagnosis) →
    r.behind ≡ one ∷ behind → Goes behind new → IsPlaced blank one p → IsTold blank one p next → more ≡ found ++ next ∷ [] → Reporting blank all new more
reporting_more {blank} {all} {s} {found} r one behind new p next more first goes placed told more_is = record {
  behind = behind;
  goes = goes;
  is = λ later h.
      let whole = r.is (next ∷ later) (subst (λ rs. Reports blank rs (next ∷ later)) (sym first) (p, next, later, placed, told, refl, h)) in
      subst (λ all_found. Reports blank all all_found) (sym (ap (λ t. t ++ later) more_is ∙ append_assoc found (next ∷ []) later)) whole;
}

pub reporting_ends : {blank : List ℕ} {all : List Refusal} {s : Standing} {found : List Diagnosis} → (r : Reporting blank all s found) → r.behind ≡ [] → Reports blank all found
reporting_ends {blank} {all} {s} {found} r none =
    subst (λ told. Reports blank all told) (append-nil found) (r.is [] (subst (λ rs. Reports blank rs []) (sym none) refl))

pub are_notes : (blank : List ℕ) (one : Refusal) (f : Finding) (notes : List Note) → IsSeen one f → Names one (stands_of notes) →
    AreNotes blank one f.place (notes_told (option_map view f.request) blank f.start f.end f.place (map note_by notes))
are_notes blank one f notes seen names = record {
  notes = map note_by notes;
  names = subst (λ stands. Names one stands) (sym (stands-notes notes)) names;
  is =
      ap (λ request. notes_told request blank f.start f.end f.place (map note_by notes)) seen.request
      ∙ ap (λ start. notes_told one.request blank start f.end f.place (map note_by notes)) seen.start
      ∙ ap (λ end. notes_told one.request blank one.start end f.place (map note_by notes)) seen.end;
}

pub is_told : (blank : List ℕ) (one : Refusal) (f : Finding) (notes : List Note) (told : List Remark) → IsSeen one f → Names one (stands_of notes)
    → told ≡ notes_told (option_map view f.request) blank f.start f.end f.place (map note_by notes) → IsTold blank one f.place (refusal_at f.place f.is_long f.code told)
is_told blank one f notes told seen names is = (
  told,
  subst (AreNotes blank one f.place) (sym is) (are_notes blank one f notes seen names),
  ap (λ long. refusal_at f.place long f.code told) seen.long ∙ ap (λ code. refusal_at f.place one.is_long code told) seen.code,
)
