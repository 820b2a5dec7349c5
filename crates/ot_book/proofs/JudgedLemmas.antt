-- What a check told is what the definition says of the first offence.
use Rattle.std.proofs.Common.{◌≡◌, ℕ, List, refl, sym, ap, ◌∙◌, inl, inr, subst}
use Rattle.std.specs.Prelude.{Some, None, Result, Ok, Err, IfErr, IsErrAnd}
use Rattle.ot_model.specs.Programs.{Expanded}
use Rattle.ot_program.specs.declared.fault.Refusal.{Refusal}
use Rattle.ot_check.specs.Offences.{Offends, IsFirstOf, code_of, TellsFirst}
use Rattle.ot_check.specs.Laws.{FirstOffenceIsFirst}
use Rattle.ot_check.specs.declared.fault.CheckFault.{CheckFault}
use Rattle.ot_check.specs.declared.fault.CheckFault.TheVariants as fault
use Rattle.ot_check.specs.declared.fault.Offence.{Offence}
use Rattle.ot_store.specs.Arrays.{Named}
use Rattle.ot_book.specs.Answers as r
use Rattle.ot_book.specs.Faults.{told_by_check}
use Rattle.ot_book.specs.Considering.{ComesToAnswer}
use Rattle.ot_book.specs.declared.told.Told.{Told}
use Rattle.ot_book.specs.Answers.{Now, Runs, offence_step, program_step}

-- a program in which nothing offends is run
pub started-runs : (arrays : List Named) (read : Result Expanded Refusal) (p : Expanded) → FirstOffenceIsFirst → read ≡ Ok p →
    IsFirstOf (Offends p.body) None → program_step arrays read ≡ Runs p
started-runs arrays read p law is first =
    ap (program_step arrays) is ∙ ap (offence_step arrays p) (sym ((law p.body).1 None first))

-- the first offence of a program is told
pub started-offends : (arrays : List Named) (read : Result Expanded Refusal) (p : Expanded) (offence : Offence) (place : ℕ) → FirstOffenceIsFirst → read ≡ Ok p →
    IsFirstOf (Offends p.body) (Some (place, offence)) → program_step arrays read ≡ Now (r.Offends (code_of offence) place) arrays
started-offends arrays read p offence place law is first =
    ap (program_step arrays) is ∙ ap (offence_step arrays p) (sym ((law p.body).1 (Some (place, offence)) first))

-- what is told where a check fails: memory ran out, or the first offence
pub started-fails : (A : Type 0) (arrays : List Named) (read : Result Expanded Refusal) (p : Expanded) (f : CheckFault) → FirstOffenceIsFirst → read ≡ Ok p →
    TellsFirst {A = A} (Offends p.body) (Err f) → ComesToAnswer (program_step arrays read) arrays arrays (told_by_check f)
started-fails A arrays read p fault.Memory law is told = inl (refl, refl)
started-fails A arrays read p (fault.Offence offence place) law is told = inr (started-offends arrays read p offence place law is told)

-- what holds of what is told holds of the error that tells it
pub error-holds : {A : Type 0} (r : Result A Told) (t : Told) (Holds : Told → Type 0) → IsErrAnd r (λ u. u ≡ t) → Holds t → IfErr r Holds
error-holds (Ok x) t Holds is holds = tt
error-holds (Err u) t Holds is holds = subst Holds (sym is) holds
