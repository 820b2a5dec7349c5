-- What the Hall's answers come to in a turn.
use Rattle.std.proofs.Common.{◌≡◌, inl, ℕ, refl, sym, subst, false}
use Rattle.std.specs.Prelude.{Option, Some, None, Ok, Err}
use Rattle.ot_check.specs.Jobs.{Spec, IsMeaning}
use Rattle.ot_check.specs.declared.job.Outcome.{Outcome}
use Rattle.ot_job.specs.Dealings.{Live, IsOf, NoneOut, live_state}
use Rattle.ot_job.specs.declared.state.State.TheVariants.{Ended, Failed}
use Rattle.ot_job.specs.Taken.{Came as Done}
use Rattle.ot_job.specs.declared.piece.Refused.{Refused}
use Rattle.ot_hall.specs.Floors.{job_of, Floor, IsWorking, RefusesIn, FailsIn, RunsShort}
use Rattle.ot_hall.specs.declared.hall.SubmitFault.TheVariants.{Memory}
use Rattle.ot_book.specs.declared.executor.NotDone.TheVariants as refused
use Rattle.ot_pool.specs.declared.tickets.Ticket.{Ticket}
use Rattle.ot_pool.specs.Shared.{Shared, Turns, ReturnsPiece, BreaksItsJob, Collects, Leaves}

-- a job that works does so where nothing has changed
pub still-working : (old new : Floor) (t : ℕ) → RunsShort old t new → IsWorking new t
still-working old new t short = subst (λ f. IsWorking f t) (sym short.same) short.working

-- a piece that is handed back is the one that came
pub fails-same : (f g : Floor) (t : ℕ) (done back : Done) (job : Option Live) → back ≡ done → FailsIn f t back job g → FailsIn f t done job g
fails-same f g t done back job same = subst (λ d. FailsIn f t d job g) same

pub breaks : (old mid new : Floor) (t : ℕ) (done back : Done) (why : Refused) → back ≡ done → RefusesIn (job_of old.jobs t) done why → mid ≡ old
    → FailsIn mid t back (job_of mid.jobs t) new → BreaksItsJob t done old new
breaks old mid new t done back why same refused before fails =
    record {
      why = why;
      refused = refused;
      fails = subst (λ (f : Floor). FailsIn f t done (job_of f.jobs t) new) before (fails-same mid new t done back (job_of mid.jobs t) same fails);
    }

-- ---- turns

pub turns : (P : Floor → Floor → Type 0) (s now : Shared) (g : Floor) → s ≡ now → s.closed ≡ false → P s.floor g → Turns P now (record { floor = g; numbers = s.numbers; closed = s.closed })
turns P s now g is unset does =
    subst (λ o. Turns P o (record { floor = g; numbers = s.numbers; closed = s.closed })) is (record { is_open = unset; does = does; numbered = refl; still = unset })

pub counts-none : (s now : Shared) (t : ℕ) (done back : Done) (why : Refused) (mid g : Floor) → s ≡ now → s.closed ≡ false → back ≡ done
    → RefusesIn (job_of s.floor.jobs t) done why → mid ≡ s.floor → FailsIn mid t back (job_of mid.jobs t) g
    → ReturnsPiece now t done None (record { floor = g; numbers = s.numbers; closed = s.closed })
counts-none s now t done back why mid g is unset same refused before fails =
    inl (turns (BreaksItsJob t done) s now g is unset (breaks s.floor mid g t done back why same refused before fails))

-- ---- a collect in two calls

-- the job that was taken out is of this spec
pub collects-ended : (old new : Shared) (k : Ticket) (job : Live) (spec : Spec) (outcome : Outcome) → Leaves old k (Some (Ok job)) new → IsOf spec job
    → live_state job ≡ Ended → NoneOut job → IsMeaning spec outcome → Collects old k.tenant spec (Some (Ok outcome)) new
collects-ended old new k job spec outcome leaves of state calm means = record {
  is_open = leaves.1.is_open;
  does = ((record { job = job; is = leaves.1.does.is; of = of }, state, calm), means, leaves.1.does.new_is);
  numbered = leaves.1.numbered;
  still = leaves.1.still;
}

pub collects-failed : (old new : Shared) (k : Ticket) (job : Live) (spec : Spec) → Leaves old k (Some (Ok job)) new → IsOf spec job
    → live_state job ≡ Failed → NoneOut job → Collects old k.tenant spec (Some (Err refused.Memory)) new
collects-failed old new k job spec leaves of state calm = record {
  is_open = leaves.1.is_open;
  does = ((record { job = job; is = leaves.1.does.is; of = of }, state, calm), leaves.1.does.new_is);
  numbered = leaves.1.numbered;
  still = leaves.1.still;
}
