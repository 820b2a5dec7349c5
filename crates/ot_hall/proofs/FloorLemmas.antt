-- What a call on one tenant's job is to the floor.
use Rattle.std.proofs.Common.{◌≡◌, ◌<◌, ◌+◌, ◌⊎◌, get_or, inl, inr, ℕ, List, [], length, set, refl, sym, ap, ◌∙◌, subst, arith, true≢false}
use Rattle.std.specs.Prelude.{is_some, IsSome, Option, Some, None, Result, Ok, Err, IfOk, OnErr, slice_get}
use Rattle.std.proofs.lemmas.Bool.{cases_lt}
use Rattle.std.proofs.lemmas.List.{get_or_past, get_or_default, set-get_or}
use Rattle.std.proofs.lemmas.Option.{same_Some, slice_get_read}
use Rattle.ot_check.specs.Jobs.{Spec, IsMeaning}
use Rattle.ot_check.specs.declared.job.Outcome.{Outcome}
use Rattle.ot_job.specs.Dealings.{Live, Fails as HasFailed, claimable_in, job_aborted, IsOf, IsOver, NoneOut, live_state}
use Rattle.ot_job.specs.Moves.{Claimed, Settles as HasSettled}
use Rattle.ot_job.specs.Taken.{Taken as Piece, Came as Done}
use Rattle.ot_job.specs.declared.state.State.TheVariants.{Working, Failing, Ended, Failed}
use Rattle.ot_job.proofs.DealingsLemmas.{claimed-gives}
use Rattle.ot_hall.specs.Floors.{job_of, Floor, with_job, IsFree, SubmitsFor, EntersFor, NothingAt, ClaimsFor, ClaimsOf, IsWorking, FailsIn, AbortsJob, HasJob, HasOver, LeavesFor, CollectsFor, SettlesFor, tenant_units, RunsShort}
use Rattle.ot_hall.specs.Index.{Begins}
use Rattle.ot_hall.specs.declared.hall.Collected.TheVariants as collected

-- who has a job is there
pub job-within : (jobs : List (Option Live)) (t : ℕ) (j : Live) → job_of jobs t ≡ Some j → t < length jobs
job-within jobs t j is = elim (cases_lt t (length jobs)) [
  | inl within ↦ within
  | inr past ↦ absurd (true≢false (sym (ap is_some (sym (get_or_past jobs t None past) ∙ is))))
]

-- a job that is as it was is written again
pub written-again : (f now : Floor) (t : ℕ) (job next : Live) → f ≡ now → job_of f.jobs t ≡ Some job → next ≡ job → with_job f t (Some next) ≡ now
written-again f now t job next is at same =
    ap (λ jobs. let r : Floor = record { jobs = jobs; units = f.units } in r) (ap (set f.jobs t) (ap Some same ∙ sym at) ∙ set-get_or f.jobs t None) ∙ is

pub nothing-at : (f now : Floor) (t : ℕ) (job : Live) → f ≡ now → job_of f.jobs t ≡ Some job → claimable_in job ≡ [] → NothingAt now.jobs t
nothing-at f now t job is at none =
    subst (λ (o : Floor). NothingAt o.jobs t) is (λ j here. subst (λ (y : Live). claimable_in y ≡ []) (same_Some job j (sym at ∙ here)) none)

pub claims-of : {E : Type 0} (f now : Floor) (t pick worker : ℕ) (job next : Live) (r : Result (Option Piece) E) → f ≡ now → job_of f.jobs t ≡ Some job
    → IfOk r (λ p. Claimed job pick worker p next) → IfOk r (λ p. ClaimsOf now t pick worker p (with_job f t (Some next)))
claims-of f now t pick worker job next (Ok None) is at claimed =
    let gives = claimed-gives job pick worker None next claimed in
    (nothing-at f now t job is at gives.0, written-again f now t job next is at gives.1)
claims-of f now t pick worker job next (Ok (Some p)) is at claimed = subst (λ o. ClaimsFor o t pick worker p (with_job f t (Some next))) is (record {
  job = job;
  is = at;
  next = next;
  claimed = claimed;
  new_is = refl;
})
claims-of f now t pick worker job next (Err e) is at claimed = tt

pub runs-short : {T E : Type 0} (f now : Floor) (t : ℕ) (job next : Live) (r : Result T E) → f ≡ now → job_of f.jobs t ≡ Some job
    → OnErr r (live_state job ≡ Working) → OnErr r (0 < length (claimable_in job)) → OnErr r (next ≡ job)
    → OnErr r (RunsShort now t (with_job f t (Some next)))
runs-short f now t job next (Ok x) is at working some same = tt
runs-short f now t job next (Err e) is at working some same = record {
  working = subst (λ o. IsWorking o t) is (record { job = job; is = at; working = working });
  some = subst (λ (o : Floor). ¬ (NothingAt o.jobs t)) is (λ none. absurd (omega (arith, some, ap length (none job at))));
  same = written-again f now t job next is at same;
}

pub fails-in : (f now : Floor) (t : ℕ) (done : Done) (job next : Live) → f ≡ now → job_of f.jobs t ≡ Some job → HasFailed job done next
    → FailsIn now t done (job_of now.jobs t) (with_job f t (Some next))
fails-in f now t done job next is at failed =
    let does : FailsIn f t done (Some job) (with_job f t (Some next)) = record { next = next; failed = failed; new_is = refl } in
    subst (λ (o : Floor). FailsIn o t done (job_of o.jobs t) (with_job f t (Some next))) is (subst (λ o. FailsIn f t done o (with_job f t (Some next))) (sym at) does)

pub aborts-job : (f now : Floor) (t : ℕ) (job next : Live) → f ≡ now → job_of f.jobs t ≡ Some job → next ≡ job_aborted job → AbortsJob now t (with_job f t (Some next))
aborts-job f now t job next is at fails =
    subst (λ o. AbortsJob o t (with_job f t (Some next))) is (record { job = job; is = at; new_is = ap (λ j. with_job f t (Some j)) fails })

-- whose job is over has one
pub has-over : (f now : Floor) (t : ℕ) → f ≡ now → HasOver now t → IsSome (job_of f.jobs t)
has-over f now t is over = let o = subst (λ g. HasOver g t) (sym is) over in ap is_some o.is

pub leaves : (f now : Floor) (t : ℕ) (job : Live) (jobs : List (Option Live)) → f ≡ now → HasOver now t → job_of f.jobs t ≡ Some job → jobs ≡ set f.jobs t None
    → LeavesFor now t job (record { jobs = jobs; units = f.units })
leaves f now t job jobs is over at left =
    let o = subst (λ g. HasOver g t) (sym is) over in
    subst (λ g. LeavesFor g t job (record { jobs = jobs; units = f.units })) is (record {
      is = at;
      over = subst (λ (j : Live). IsOver (live_state j)) (same_Some o.job job (sym o.is ∙ at)) o.over;
      new_is = ap (λ js. let r : Floor = record { jobs = js; units = f.units } in r) left;
    })

abbrev has-job : (f : Floor) (t : ℕ) (spec : Spec) (job : Live) → job_of f.jobs t ≡ Some job → IsOf spec job → HasJob f t spec
has-job f t spec job at of = record { job = job; is = at; of = of }

pub collects-pending : (f now : Floor) (t : ℕ) (spec : Spec) (job : Live) → f ≡ now → job_of f.jobs t ≡ Some job → IsOf spec job
    → (live_state job ≡ Working) ⊎ (live_state job ≡ Failing) → CollectsFor now t spec collected.Pending now
collects-pending f now t spec job is at of state = subst (λ o. CollectsFor o t spec collected.Pending o) is ((has-job f t spec job at of, state), refl)

pub collects-ended : (f now : Floor) (t : ℕ) (spec : Spec) (job : Live) (outcome : Outcome) (jobs : List (Option Live)) → f ≡ now → job_of f.jobs t ≡ Some job → IsOf spec job
    → live_state job ≡ Ended → NoneOut job → IsMeaning spec outcome → jobs ≡ set f.jobs t None
    → CollectsFor now t spec (collected.Ended outcome) (record { jobs = jobs; units = f.units })
collects-ended f now t spec job outcome jobs is at of state calm means left =
    subst (λ o. CollectsFor o t spec (collected.Ended outcome) (record { jobs = jobs; units = f.units })) is
    ((has-job f t spec job at of, state, calm), means, ap (λ js. let r : Floor = record { jobs = js; units = f.units } in r) left)

pub collects-failed : (f now : Floor) (t : ℕ) (spec : Spec) (job : Live) (jobs : List (Option Live)) → f ≡ now → job_of f.jobs t ≡ Some job → IsOf spec job
    → live_state job ≡ Failed → NoneOut job → jobs ≡ set f.jobs t None
    → CollectsFor now t spec collected.Failed (record { jobs = jobs; units = f.units })
collects-failed f now t spec job jobs is at of state calm left =
    subst (λ o. CollectsFor o t spec collected.Failed (record { jobs = jobs; units = f.units })) is
    ((has-job f t spec job at of, state, calm), ap (λ js. let r : Floor = record { jobs = js; units = f.units } in r) left)

pub submits : (f now : Floor) (t : ℕ) (spec : Spec) (jobs : List (Option Live)) → f ≡ now → IsFree f t → Begins f.jobs t spec jobs
    → SubmitsFor now t spec (record { jobs = jobs; units = f.units })
submits f now t spec jobs is free begins = subst (λ o. SubmitsFor o t spec (record { jobs = jobs; units = f.units })) is (record {
  free = free;
  job = begins.job;
  starts = begins.starts;
  new_is = ap (λ js. let r : Floor = record { jobs = js; units = f.units } in r) begins.new_is;
})

pub enters : (f now : Floor) (t : ℕ) (job : Live) (jobs : List (Option Live)) → f ≡ now → IsFree f t → jobs ≡ set f.jobs t (Some job)
    → EntersFor now t job (record { jobs = jobs; units = f.units })
enters f now t job jobs is free with_it = subst (λ o. EntersFor o t job (record { jobs = jobs; units = f.units })) is (record {
  free = free;
  new_is = ap (λ js. let r : Floor = record { jobs = js; units = f.units } in r) with_it;
})

-- what was read of a tenant that is there
pub seen : {X : Type 0} (xs : List X) (t : ℕ) (x : X) → t < length xs → x ≡ get_or xs t x → slice_get xs t ≡ Some x
seen xs t x = slice_get_read xs (length xs) t x refl

pub settles : (f now : Floor) (t : ℕ) (done : Done) (n x : ℕ) (job next : Live) → f ≡ now → job_of f.jobs t ≡ Some job
    → HasSettled job done n next → x ≡ tenant_units f t + n → SettlesFor now t done n (record { jobs = set f.jobs t (Some next); units = set f.units t x })
settles f now t done n x job next is at settled more =
    subst (λ o. SettlesFor o t done n (record { jobs = set f.jobs t (Some next); units = set f.units t x })) is (record {
      job = job;
      is = at;
      next = next;
      settled = settled;
      new_is = ap (λ u. let r : Floor = record { jobs = set f.jobs t (Some next); units = set f.units t u } in r) more;
    })

pub units-read : (units : List ℕ) (t x : ℕ) → t < length units → x ≡ get_or units t x → x ≡ get_or units t 0
units-read units t x within read = read ∙ get_or_default units t x 0 within
