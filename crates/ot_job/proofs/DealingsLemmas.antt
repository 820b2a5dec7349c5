-- A job's calls, as whoever deals with it sees them.
use Rattle.std.proofs.Common.{◌≡◌, ◌≢◌, ℕ, zero, suc, ◌+◌, ◌<◌, ◌≤◌, Bool, true, false, not, ◌&&◌, ◌||◌, List, [], ◌∷◌, length, get_or, refl, sym, ap, subst, ◌∙◌, ◌⊎◌, inl, inr, arith, true≢false, ◌==◌, ◌%◌, Option, Some, None, is_some, option_map, if◌then◌else◌}
use Rattle.ot_job.proofs.Common.{range_with_len, same_Some, none-some, slice_get-get_or, length-range_with_len, length-filter, count_by-le-length, false_from_ne_true, E, Body, expanded_of, updated, and_left, not_true, Lease, lease_of, loan_of, Region, Run, region_stopped, root_region, at, Live, Taken, Came, IsOut, taken_by, after_parts, test_of, piece_begun, with_loan, loans_out, is_claimable, claimable_of, picked_at, is_let_go, is_ready, Claims, ahead, Settles, moved_on, regions_settled, any_out, all_ended, claimable_in, job_aborted, region_weight, weight_left, IsWell, Working, Failing, Ended, Failed, out_in, or_right, cases_Bool}
use Rattle.std.proofs.lemmas.Nat.{mod_below}
use Rattle.std.proofs.lemmas.List.Sorted.{length_permutation}
use Rattle.ot_check.specs.Jobs.{Spec}
use Rattle.ot_job.proofs.SettleLemmas.{run_of, runs-within}
use Rattle.ot_job.specs.Moves.{Claimed}
use Rattle.ot_job.specs.Dealings.{Starts, FailsBy, Work, work_of, work_brought, run_with, work_in, work_at, NoneOut, out_of, live_state, settles_left, after_failure, IsFresh, Takes, Returns, Gives, Pays, Breaks, Aborts}
use Rattle.ot_job_task.specs.Regions.{weight_of as weight_in}
use Rattle.ot_job.proofs.CountingLemmas.{one, count-cons, count-updated, out-any}
use Rattle.ot_job.proofs.KeptLemmas.{at-updated, at-updated-other}
use Rattle.ot_job.proofs.WellLemmas.{claimable-idle}
use Rattle.ot_job.proofs.ClaimableLemmas.{picked-claimable}
use Rattle.ot_job.proofs.StartLemmas.{each-ended, one-out, root-light}
use Rattle.ot_job.proofs.MovesLemmas.{Alike, others-moved, still-out, loans-settled}
use Rattle.ot_job.proofs.WeighingLemmas.{weight-begun}
use Rattle.ot_job.proofs.StepLemmas.{moved-running}
use Rattle.ot_job.proofs.StuckLemmas.{none-out as none-at, state-working}

-- ---- the piece that is out

pub out-work : (j : Live) (d : Came) → IsOut j.regions d → work_at j d.task ≡ Some (work_brought d)
out-work j d out =
    ap (option_map (run_with (test_of (at j.regions d.task).rest))) out.0.1
    ∙ ap (λ (t : Option E). Some (run_with t (run_of out.0.0 d))) (sym out.1)

pub work-out : (j : Live) (d : Came) → work_at j d.task ≡ Some (work_brought d) → IsOut j.regions d
work-out j d h = by (at j.regions d.task).running refl h
  where
    by : (o : Option Run) → (at j.regions d.task).running ≡ o → option_map (run_with (test_of (at j.regions d.task).rest)) o ≡ Some (work_brought d) → IsOut j.regions d
    by None e same = absurd (none-some (work_brought d) same)
    by (Some run) e same =
        let one : run_with (test_of (at j.regions d.task).rest) run ≡ work_brought d = same_Some (run_with (test_of (at j.regions d.task).rest) run) (work_brought d) same in
        ((run.worker, e ∙ ap (λ (w : Work). Some (let r : Run = record { worker = run.worker; assigns = w.assigns; lease = w.lease } in r)) one), sym (ap (λ (w : Work). w.test) one))

work-same : (a b : Region) → a.running ≡ b.running → a.rest ≡ b.rest → work_in a ≡ work_in b
work-same a b running rest = ap (option_map (run_with (test_of a.rest))) running ∙ ap (λ (x : Body). option_map (run_with (test_of x)) b.running) rest

work-none : (a : Region) → a.running ≡ None → work_in a ≡ None
work-none a none = ap (option_map (run_with (test_of a.rest))) none

-- ---- how many are out

abbrev runs : Region → Bool
runs r = is_some r.running

-- one region more
out-cons : (r : Region) (rs : List Region) → out_in (r ∷ rs) ≡ one (runs r) + out_in rs
out-cons r rs = count-cons runs r rs

pub out-loans : (rs : List Region) → out_in rs ≡ length (loans_out rs)
out-loans [] = refl
out-loans (r ∷ rs) = out-cons r rs ∙ by r.running (out-loans rs)
  where
    by : (o : Option Run) → out_in rs ≡ length (loans_out rs) → one (is_some o) + out_in rs ≡ length (with_loan o (loans_out rs))
    by None h = omega (arith, h)
    by (Some run) h = omega (arith, h)

-- each that is out weighs something
pub out-light : (rs : List Region) → ((i : ℕ) (run : Run) → (at rs i).running ≡ Some run → (at rs i).ended ≡ false) → out_in rs ≤ weight_in rs
out-light [] alive = omega arith
out-light (r ∷ rs) alive = by r.running refl (out-light rs (λ i. alive (suc i)))
  where
    by : (o : Option Run) → r.running ≡ o → out_in rs ≤ weight_in rs → out_in (r ∷ rs) ≤ region_weight r + weight_in rs
    by None e h =
        let none : one (runs r) ≡ 0 = ap (λ (o : Option Run). one (is_some o)) e in
        omega (arith, h, none, out-cons r rs)
    by (Some run) e h =
        let some : one (runs r) ≡ 1 = ap (λ (o : Option Run). one (is_some o)) e in
        let heavy : region_weight r ≡ 1 + weight_left (is_some r.running) r.rest r.groups = ap (λ (b : Bool). if b then 0 else 1 + weight_left (is_some r.running) r.rest r.groups) (alive 0 run e) in
        omega (arith, h, heavy, some, out-cons r rs)

-- ---- whether one is out

any-at : (rs : List Region) (i : ℕ) (run : Run) → (at rs i).running ≡ Some run → any_out rs ≡ true
any-at [] i run is = absurd (none-some run is)
any-at (r ∷ rs) zero run is = ap (λ (o : Option Run). is_some o || any_out rs) is
any-at (r ∷ rs) (suc i) run is = or_right (is_some r.running) (any_out rs) (any-at rs i run is)

pub none-out : (j : Live) → any_out j.regions ≡ false → NoneOut j
none-out j h k = work-none (at j.regions k) (none-at j.regions h k)

pub out-none : (j : Live) → NoneOut j → any_out j.regions ≡ false
out-none j none = false_from_ne_true (any_out j.regions) (λ e.
    let o = one-out j.regions e in
    none-some (run_with (test_of (at j.regions o.0).rest) o.1) (sym (none o.0) ∙ ap (option_map (run_with (test_of (at j.regions o.0).rest))) o.2))

failed-state : (rs : List Region) → (if any_out rs then Failing else Failed) ≡ after_failure (out_in rs)
failed-state rs = ap (λ (b : Bool). if b then Failing else Failed) (sym (out-any rs)) ∙ by (out_in rs == 0)
  where
    by : (b : Bool) → (if not b then Failing else Failed) ≡ (if b then Failed else Failing)
    by true = refl
    by false = refl

-- ---- how it stands

working-is : (j : Live) → j.failing ≡ false → all_ended j.regions ≡ false → live_state j ≡ Working
working-is j working left = rw (working, left)

one-alive : (rs : List Region) (i : ℕ) → (at rs i).ended ≡ false → all_ended rs ≡ false
one-alive rs i alive = false_from_ne_true (all_ended rs) (λ e. true≢false (sym (each-ended rs e i) ∙ alive))

-- ---- a job begins

root-none : (body : Body) (k : ℕ) → work_in (at (root_region body ∷ []) k) ≡ None
root-none body zero = refl
root-none body (suc k) = refl

pub starts-fresh : (spec : Spec) (j : Live) → Starts spec j → IsFresh spec j
starts-fresh spec j s = record {
  of = record { program = sym s.program; before = sym s.before };
  working = working-is j s.working (ap all_ended s.regions);
  none = λ k. ap (λ (rs : List Region). work_in (at rs k)) s.regions ∙ root-none (expanded_of spec.checked.program).body k;
  out = ap out_in s.regions;
  weight = omega (arith, spec.checked.program.few, spec.checked.program.statements_are, root-light (expanded_of spec.checked.program).body, ap weight_in s.regions);
  units = s.units;
}

-- ---- a claim

some-picked : (xs : List ℕ) (pick i : ℕ) → picked_at xs pick ≡ Some i → 0 < length xs
some-picked [] pick i h = absurd (none-some i h)
some-picked (x ∷ xs) pick i h = omega arith

none-picked : (xs : List ℕ) (pick : ℕ) → picked_at xs pick ≡ None → xs ≡ []
none-picked [] pick h = refl
none-picked (x ∷ xs) pick h =
    absurd (none-some (get_or (x ∷ xs) (pick % length (x ∷ xs)) 0) (sym h ∙ slice_get-get_or (x ∷ xs) (pick % length (x ∷ xs)) 0 (mod_below pick (length (x ∷ xs)) (omega arith))))

claimable-alive : (rs : List Region) (i : ℕ) → is_claimable rs i ≡ true → (at rs i).ended ≡ false
claimable-alive rs i can =
    not_true (at rs i).ended
    (and_left (not (at rs i).ended) (not (is_some (at rs i).running))
    (and_left (not (at rs i).ended && not (is_some (at rs i).running)) (((i == 0) || is_ready (at rs (at rs i).parent).children (at rs i).child) && is_let_go (at rs i)) can))

-- where one is picked, some task is claimable
pub picked-in : (failing : Bool) (rs : List Region) (pick i : ℕ) → picked_at (if failing then [] else claimable_of rs) pick ≡ Some i
    → (failing ≡ false) × (picked_at (claimable_of rs) pick ≡ Some i)
picked-in true rs pick i is = cc
picked-in false rs pick i is = (refl, is)

pub picked-some : (j : Live) (pick i : ℕ) → j.failing ≡ false → picked_at (claimable_of j.regions) pick ≡ Some i → 0 < length (claimable_in j)
picked-some j pick i working h =
    some-picked (claimable_in j) pick i (ap (λ (b : Bool). picked_at (if b then [] else claimable_of j.regions) pick) working ∙ h)

pub picked-working : (j : Live) (pick i : ℕ) → j.failing ≡ false → picked_at (claimable_of j.regions) pick ≡ Some i → live_state j ≡ Working
picked-working j pick i working h = working-is j working (one-alive j.regions i (claimable-alive j.regions i (picked-claimable j.regions pick i h).1))

pub claims-takes : (old : Live) (pick worker : ℕ) (p : Taken) (new : Live) → Claims old pick worker p new → Takes old p.task (work_of p) new
claims-takes old pick worker p new c = subst (λ (n : Live). Takes old p.task (work_of p) n) (sym c.now) (record {
  free = work-none (at rs i) idle;
  taken =
      ap work_in here
      ∙ ap (λ (b : Body). Some (run_with (test_of (after_parts (ahead old i))) (let r : Run = record { worker = worker; assigns = b; lease = lease } in r))) (sym c.assigns)
      ∙ ap (λ (t : Option E). Some (run_with t (let r : Run = record { worker = worker; assigns = p.assigns; lease = lease } in r))) (sym c.test);
  others = λ k other. ap work_in (at-updated-other rs i k (piece_begun worker lease) other);
  out = counts;
  weight = weight-begun worker lease rs i both.0 idle;
  units = refl;
  working = working-is old working left;
  state = working-is now working left-now ∙ sym (working-is old working left);
  same = record { program = refl; before = refl };
})
  where
    rs : List Region
    rs = old.regions

    i : ℕ
    i = p.task

    lease : Lease
    lease = lease_of p.lent

    now : Live
    now = record old { regions = updated old.regions p.task (piece_begun worker (lease_of p.lent)); cells = new.cells; owned = new.owned }

    working : old.failing ≡ false
    working = (picked-in old.failing rs pick i c.task).0

    both : (i < length rs) × (is_claimable rs i ≡ true)
    both = picked-claimable rs pick i (picked-in old.failing rs pick i c.task).1

    idle : (at rs i).running ≡ None
    idle = claimable-idle rs i both.1

    here : at (updated rs i (piece_begun worker lease)) i ≡ piece_begun worker lease (at rs i)
    here = at-updated rs i (piece_begun worker lease) both.0

    left : all_ended rs ≡ false
    left = one-alive rs i (claimable-alive rs i both.1)

    left-now : all_ended (updated rs i (piece_begun worker lease)) ≡ false
    left-now = one-alive (updated rs i (piece_begun worker lease)) i (ap (λ (r : Region). r.ended) here ∙ claimable-alive rs i both.1)

    counts : out_in (updated rs i (piece_begun worker lease)) ≡ out_in rs + 1
    counts =
        let none : one (runs (at rs i)) ≡ 0 = ap (λ (o : Option Run). one (is_some o)) idle in
        let w = count-updated runs (piece_begun worker lease) rs i both.0 in
        omega (arith, w, none)

pub claimed-gives : (old : Live) (pick worker : ℕ) (p : Option Taken) (new : Live) → Claimed old pick worker p new → Gives old p new
claimed-gives old pick worker None new c = (none-picked (claimable_in old) pick c.0, c.1)
claimed-gives old pick worker (Some p) new c = (some-picked (claimable_in old) pick p.task c.task, claims-takes old pick worker p new c)

pub claimable-few : (rs : List Region) → length (claimable_of rs) ≤ length rs
claimable-few rs =
    omega (arith, length-filter (is_claimable rs) (range_with_len 0 (length rs)), count_by-le-length (is_claimable rs) (range_with_len 0 (length rs)), length-range_with_len 0 (length rs))

-- ---- a settle

work-settled-other : (taken : Bool) (g i : ℕ) (rs : List Region) (k : ℕ) → k ≢ i → work_in (at (regions_settled taken g i rs) k) ≡ work_in (at rs k)
work-settled-other taken g i rs k other = ap work_in (at-updated-other (moved_on taken g i rs) i k region_stopped other) ∙ pick (others-moved taken g i rs k other)
  where
    pick : Alike (at (moved_on taken g i rs) k) (at rs k) ⊎ ((at (moved_on taken g i rs) k).running ≡ None) → work_in (at (moved_on taken g i rs) k) ≡ work_in (at rs k)
    pick (inl (kids, a)) = work-same (at (moved_on taken g i rs) k) (at rs k) (ap (λ (r : Region). r.running) a) (ap (λ (r : Region). r.rest) a)
    pick (inr none) =
        work-none (at (moved_on taken g i rs) k) none ∙ sym (work-none (at rs k) (sym (moved-running taken g i rs k) ∙ none))

work-settled : (taken : Bool) (g i : ℕ) (rs : List Region) → work_in (at (regions_settled taken g i rs) i) ≡ None
work-settled taken g i rs = by (at (regions_settled taken g i rs) i).running refl
  where
    by : (o : Option Run) → (at (regions_settled taken g i rs) i).running ≡ o → work_in (at (regions_settled taken g i rs) i) ≡ None
    by None e = work-none (at (regions_settled taken g i rs) i) e
    by (Some run) e = absurd ((still-out taken g i rs i run e).0 refl)

pub settles-returns : (old : Live) (d : Came) (n : ℕ) (new : Live) → Settles old d n new → Returns old d.task (work_brought d) new
settles-returns old d n new s = record {
  was = out-work old d s.out;
  free = ap (λ (rs : List Region). work_in (at rs i)) regions ∙ work-settled (taken_by d.answer) old.counts.units i old.regions;
  others = λ k other. ap (λ (rs : List Region). work_in (at rs k)) regions ∙ work-settled-other (taken_by d.answer) old.counts.units i old.regions k other;
  out = counts;
  same = record { program = ap (λ (j : Live). j.program) s.now; before = ap (λ (j : Live). j.before) s.now };
}
  where
    i : ℕ
    i = d.task

    regions : new.regions ≡ regions_settled (taken_by d.answer) old.counts.units i old.regions
    regions = ap (λ (j : Live). j.regions) s.now

    counts : out_in new.regions + 1 ≡ out_in old.regions
    counts =
        let same = length_permutation (loans_out old.regions) (loan_of s.out.0.0 d.lent ∷ loans_out (regions_settled (taken_by d.answer) old.counts.units i old.regions))
        (loans-settled (taken_by d.answer) old.counts.units i old.regions (run_of s.out.0.0 d) (runs-within old.regions i (run_of s.out.0.0 d) s.out.0.1) s.out.0.1) in
        omega (arith, same, ap out_in regions, out-loans old.regions, out-loans (regions_settled (taken_by d.answer) old.counts.units i old.regions))

pub settles-pays : (old : Live) (d : Came) (n : ℕ) (new : Live) → Settles old d n new → Pays old d n new
settles-pays old d n new s = record {
  returns = settles-returns old d n new s;
  working = s.working;
  after = after (all_ended new.regions) refl;
  weight = s.lighter;
  units = ap (λ (j : Live). j.counts.units) s.now ∙ ap (λ (m : ℕ). old.counts.units + m) (sym s.units);
  few = s.few;
}
  where
    working-now : new.failing ≡ false
    working-now = ap (λ (j : Live). j.failing) s.now ∙ (state-working old s.working).0

    after : (b : Bool) → all_ended new.regions ≡ b → (live_state new ≡ Working) ⊎ (live_state new ≡ Ended)
    after false e = inl (working-is new working-now e)
    after true e = inr (rw (working-now, e))

-- a job that goes well works while a piece of it is out
pub works : (j : Live) (d : Came) → IsWell j → IsOut j.regions d → j.failing ≡ false → live_state j ≡ Working
works j d w out going =
    working-is j going (one-alive j.regions d.task ((w.course going).runs d.task (run_of out.0.0 d) out.0.1).alive)

-- ---- a piece comes back without results

pub state-by-out : (old : Live) (d : Came) → IsOut old.regions d → old.failing ≡ true → live_state old ≡ Failing
state-by-out old d out e = rw (e, any-at old.regions d.task (run_of out.0.0 d) out.0.1)

pub fails-breaks : (old : Live) (d : Came) (new : Live) → FailsBy old d new → Breaks old d new
fails-breaks old d new f = subst (λ (n : Live). Breaks old d n) (sym f.now) (record {
  returns = record {
    was = out-work old d f.out;
    free = ap work_in (at-updated rs i region_stopped within);
    others = λ k other. ap work_in (at-updated-other rs i k region_stopped other);
    out = counts;
    same = record { program = refl; before = refl };
  };
  state = failed-state (updated rs i region_stopped);
  going = f.going;
  units = refl;
})
  where
    rs : List Region
    rs = old.regions

    i : ℕ
    i = d.task

    run : Run
    run = run_of f.out.0.0 d

    within : i < length rs
    within = runs-within rs i run f.out.0.1

    counts : out_in (updated rs i region_stopped) + 1 ≡ out_in rs
    counts =
        let some : one (runs (at rs i)) ≡ 1 = ap (λ (o : Option Run). one (is_some o)) f.out.0.1 in
        let w = count-updated runs region_stopped rs i within in
        omega (arith, w, some)

-- how a job stands that a piece comes back to
pub stands-by : (old : Live) (d : Came) → IsWell old → IsOut old.regions d → ((live_state old ≡ Working) × (out_of old ≤ settles_left old)) ⊎ (live_state old ≡ Failing)
stands-by old d w out = elim (cases_Bool old.failing) [
  | inl e ↦ inr (state-by-out old d out e)
  | inr e ↦ inl (works old d w out e, out-light old.regions (λ k x is. ((w.course e).runs k x is).alive))
]

pub aborted-aborts : (old new : Live) → new ≡ job_aborted old → Aborts old new
aborted-aborts old new is = subst (λ (n : Live). Aborts old n) (sym is) (record {
  state = failed-state old.regions;
  works = λ k. refl;
  out = refl;
  units = refl;
  same = record { program = refl; before = refl };
})
