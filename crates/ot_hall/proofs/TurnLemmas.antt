-- The marks of the tenants with a claimable task, and whose turn it is.
use Rattle.std.proofs.Common.{◌≡◌, ◌<◌, ℕ, Bool, true, false, true≢false, List, length, map, replicate, set, refl, sym, ap, subst, ◌∙◌, inl, inr, arith}
use Rattle.std.specs.Prelude.{Option, None, Some, is_some, nat_lt}
use Rattle.std.specs.Slice.Scan.{HoldsNowhere}
use Rattle.std.proofs.Math.ListN.{get_or-map}
use Rattle.std.proofs.lemmas.Bool.{cases_lt, ltb-false}
use Rattle.std.proofs.lemmas.List.{get_or_past, get_or-set_same, length-map, length-set, map-set, nil_from_length}
use Rattle.ot_job.specs.Dealings.{Live, claimable_in}
use Rattle.ot_hall.specs.Floors.{job_of, has_claimable, NothingAt, NothingAnywhere}
use Rattle.ot_hall.specs.Index.{NothingIn, IsNext}
use Rattle.ot_hall.specs.FloorView.{IsHall}
use Rattle.ot_hall.specs.Marking.{is_number_marked, IsFirst}
use Rattle.ot_hall.specs.declared.hall.Hall.TheInside.{Inside}
use Rattle.ot_hall.proofs.FloorLemmas.{job-within}
use Rattle.ot_hall.proofs.IndexLemmas.{map-replicate}

-- ---- the marks

abbrev pub AreMarked : List Bool → List (Option Live) → Type 0
AreMarked marks jobs = marks ≡ map has_claimable jobs

-- the tenant's job has become another, and its mark is put anew
marked-read : (marks : List Bool) (jobs : List (Option Live)) (t : ℕ) (job : Option Live) → AreMarked marks jobs → t < length jobs
    → AreMarked (set marks t (has_claimable (job_of (set jobs t job) t))) (set jobs t job)
marked-read marks jobs t job are within =
    ap (λ j. set marks t (has_claimable j)) (get_or-set_same jobs t job None within) ∙ ap (λ m. set m t (has_claimable job)) are ∙ sym (map-set has_claimable jobs t job)

pub as-many-marks : (marks : List Bool) (jobs : List (Option Live)) → AreMarked marks jobs → length marks ≡ length jobs
as-many-marks marks jobs are = ap length are ∙ length-map jobs has_claimable

mark-is : (marks : List Bool) (jobs : List (Option Live)) (t : ℕ) → AreMarked marks jobs → is_number_marked marks t ≡ has_claimable (job_of jobs t)
mark-is marks jobs t are = ap (λ m. is_number_marked m t) are ∙ get_or-map has_claimable jobs t None

-- ---- what they tell

nothing : (jobs : List (Option Live)) (t : ℕ) → has_claimable (job_of jobs t) ≡ false → NothingAt jobs t
nothing jobs t not_so j here = nil_from_length (claimable_in j) (omega (arith, ltb-false 0 (length (claimable_in j)) (sym (ap has_claimable here) ∙ not_so)))

something : (jobs : List (Option Live)) (t : ℕ) (job : Option Live) → job_of jobs t ≡ job → has_claimable job ≡ true → ¬ (NothingAt jobs t)
something jobs t None is is_so none = true≢false (sym is_so)
something jobs t (Some j) is is_so none = true≢false (sym is_so ∙ ap (λ tasks. nat_lt 0 (length tasks)) (none j is))

nothing-in : (marks : List Bool) (jobs : List (Option Live)) (from to : ℕ) → AreMarked marks jobs → HoldsNowhere (is_number_marked marks) from to → NothingIn jobs from to
nothing-in marks jobs from to are none t after before = nothing jobs t (sym (mark-is marks jobs t are) ∙ none t after before)

-- ---- whose turn it is

some-at : (marks : List Bool) (jobs : List (Option Live)) (from t : ℕ) → AreMarked marks jobs → IsFirst marks from (Some t) → ¬ (NothingAt jobs t)
some-at marks jobs from t are first = something jobs t (job_of jobs t) refl (sym (mark-is marks jobs t are) ∙ first.1.hit first.0)

pub next-on : (marks : List Bool) (jobs : List (Option Live)) (from t : ℕ) → AreMarked marks jobs → IsFirst marks from (Some t) → IsNext jobs from (Some t)
next-on marks jobs from t are first = (some-at marks jobs from t are first, inl (first.1.low, nothing-in marks jobs from t are first.1.before))

pub next-again : (marks : List Bool) (jobs : List (Option Live)) (from : ℕ) (next : Option ℕ) → AreMarked marks jobs → IsFirst marks from None → IsFirst marks 0 next → IsNext jobs from next
next-again marks jobs from None are none first = λ t. elim (cases_lt t (length marks)) [
  | inl within ↦ nothing-in marks jobs 0 (length marks) are first t (omega arith) within
  | inr past ↦ nothing jobs t (sym (mark-is marks jobs t are) ∙ get_or_past marks t false past)
]
next-again marks jobs from (Some t) are none first =
    (some-at marks jobs 0 t are first, inr (subst (NothingIn jobs from) (as-many-marks marks jobs are) (nothing-in marks jobs from (length marks) are none), nothing-in marks jobs 0 t are first.1.before))

-- whether some mark is set
pub any-marked : (marks : List Bool) (jobs : List (Option Live)) (next : Option ℕ) → AreMarked marks jobs → IsFirst marks 0 next → is_some next ≡ true → ¬ (NothingAnywhere jobs)
any-marked marks jobs None are first is_so none = true≢false (sym is_so)
any-marked marks jobs (Some t) are first is_so none = some-at marks jobs 0 t are first (none t)

pub none-marked : (marks : List Bool) (jobs : List (Option Live)) (next : Option ℕ) → AreMarked marks jobs → IsFirst marks 0 next → is_some next ≡ false → NothingAnywhere jobs
none-marked marks jobs None are first not_so = next-again marks jobs 0 None are first first
none-marked marks jobs (Some t) are first not_so = absurd (true≢false not_so)

-- ---- the hall, where a tenant's job has become another

pub hall-noted : (h : Inside) (t : ℕ) (job : Option Live) (jobs : List (Option Live)) (claims : Bool) (marks : List Bool) → IsHall h → t < length h.jobs → jobs ≡ set h.jobs t job
    → claims ≡ has_claimable (job_of jobs t) → marks ≡ set h.marks t claims → IsHall (record { jobs = jobs; marks = marks; units = h.units; total = h.total })
hall-noted h t job jobs claims marks is within jobs_are claims_is marks_are =
    let many : length jobs ≡ length h.jobs = ap length jobs_are ∙ length-set h.jobs t job in record {
      total = is.total;
      marks =
          marks_are ∙ ap (set h.marks t) claims_is
          ∙ subst (λ js. AreMarked (set h.marks t (has_claimable (job_of js t))) js) (sym jobs_are) (marked-read h.marks h.jobs t job is.marks within);
      as_many = is.as_many ∙ sym many;
      few = omega (arith, many, is.few);
    }

-- and where it has none
pub hall-left : (h : Inside) (t : ℕ) (job : Live) (jobs : List (Option Live)) (marks : List Bool) → IsHall h → job_of h.jobs t ≡ Some job → jobs ≡ set h.jobs t None
    → marks ≡ set h.marks t false → IsHall (record { jobs = jobs; marks = marks; units = h.units; total = h.total })
hall-left h t job jobs marks is at left =
    let within = job-within h.jobs t job at in
    hall-noted h t None jobs false marks is within left (sym (ap has_claimable (ap (λ js. job_of js t) left ∙ get_or-set_same h.jobs t None None within)))

-- nobody has a job, and no mark is set
pub none-at-first : (n : ℕ) (jobs : List (Option Live)) (marks : List Bool) → jobs ≡ replicate n None → marks ≡ replicate n false → AreMarked marks jobs
none-at-first n jobs marks jobs_are marks_are = marks_are ∙ sym (map-replicate has_claimable None n) ∙ ap (map has_claimable) (sym jobs_are)
