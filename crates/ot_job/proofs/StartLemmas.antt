-- A job begins well, and where it has ended its cells and counts are the serial meaning of its program.
use Rattle.std.proofs.Common.{◌≡◌, ℕ, zero, suc, ◌+◌, ◌*◌, ◌<◌, ◌≤◌, Bool, true, false, List, [], ◌∷◌, length, refl, sym, ap, subst, ◌∙◌, arith, true≢false, ◌==◌, Option, option_map, is_some, ◌||◌, Some, None, slice_get, if◌then◌else◌, IsPermutation, Contains, All}
use Rattle.ot_job.proofs.Common.{All-nil, IsPermutation-refl, IsPermutation-sym, IsPermutation-trans, Contains-permutation, false_from_ne_true, Body, End, Next, size, weight_of, cell_of, lengths, updated, NamedIn, AreInShape, Expanded, State, serial, serial_run, state_of, length-updated, Sibling, allows, and_left, and_right, Owned, loan_of, lease_of, lent_from, worths, worth_over, worths-same, permutation_rest, Holds, touches_out, left_of_job, children_left, Open, Region, Run, root_region, region_stopped, at, empty_region, todo_at, parents, left_of, IsSoundRegion, IsSoundRegions, wholes, loans_out, AreOpen, Live, IsWell, all_ended, any_out, state_in, Working, Failing, Ended, Failed, Came, IsOut, IsRootOrReady, none-some, todo}
use Rattle.ot_job.proofs.WeighingLemmas.{weight-few, weight-stopped}
use Rattle.ot_check.specs.Discipline.{IsDisciplined}
use Rattle.ot_check.proofs.Cited.{disciplined-fine, inside}
use Rattle.ot_owner.proofs.WorthLemmas.{worths-combined}
use Rattle.ot_job.proofs.Kept.{touch-all}
use Rattle.ot_job.proofs.ChangedLemmas.{placed-bare}
use Rattle.ot_job.proofs.RightsLemmas.{at-whole}
use Rattle.ot_job.proofs.OpeningLemmas.{none-open, open-none, none-combined}
use Rattle.ot_job.proofs.SettleLemmas.{run_of, runs-within}
use Rattle.ot_job.proofs.WellLemmas.{out-contained}
use Rattle.ot_job.proofs.MovesLemmas.{one-less, stopped-others}
use Rattle.ot_job.specs.Sound.{HasTask}

-- ---- the root alone

placed-gone : IsSoundRegion empty_region
placed-gone = placed-bare 0 0 None End true tt tt tt (λ uses is. cc) (λ e. refl) (λ o c h. absurd (true≢false (sym h)))

root-each : (P : Region → Type 0) (body : Body) → P (root_region body) → P empty_region → (i : ℕ) → P (at (root_region body ∷ []) i)
root-each P body here past zero = here
root-each P body here past (suc i) = past

module _ (program : Expanded) (disciplined : IsDisciplined program) (lens : List ℕ) (named : NamedIn lens program.body) where
  abbrev root : List Region
  root = root_region program.body ∷ []

  placed-root : IsSoundRegion (root_region program.body)
  placed-root = placed-bare 0 0 None program.body false (disciplined-fine program.body disciplined) (touch-all (λ u. allows None u ≡ true) (λ u. refl) program.body)
      (inside lens program.body named disciplined) (λ uses is. cc) (λ e. absurd (true≢false (sym e))) (λ o c h. absurd (true≢false (sym h)))

  pub sound-root : IsSoundRegions root
  sound-root = record {
    root = refl;
    top = refl;
    down = λ i pos. omega (arith, pos, root-each (λ r. r.parent ≡ 0) program.body refl refl i);
    kin = λ i pos below. absurd (omega (arith, pos, below));
    entries = λ p. root-each (λ r. (k : ℕ) (s : Sibling) → slice_get r.children k ≡ Some s → HasTask root p k) program.body (λ k s there. cc) (λ k s there. cc) p;
    older = λ a b pos lt below same. absurd (omega (arith, pos, lt, below));
    begun = λ i pos below. absurd (omega (arith, pos, below));
    entered = λ i. root-each (λ r. (o : Open) (os : List Open) → r.groups ≡ o ∷ os → IsRootOrReady root i) program.body (λ o os is. cc) (λ o os is. cc) i;
    placed = root-each IsSoundRegion program.body placed-root placed-gone;
    done = λ i pos over. root-each (λ r. (k : ℕ) (s : Sibling) → slice_get r.children k ≡ Some s → s.finished ≡ true) program.body (λ k s there. cc) (λ k s there. cc) i;
  }

pub root-light : (body : Body) → weight_of (root_region body ∷ []) ≤ 2 * size body + 1
root-light End = omega arith
root-light (Next x rest) = omega (arith, weight-few (Next x rest))

-- a job begins well
pub starts-well : (j : Live) → IsDisciplined j.program → NamedIn (lengths j.cells) j.program.body → j.owned.out ≡ [] → j.owned.groups ≡ [] → j.regions ≡ root_region j.program.body ∷ []
    → j.cells ≡ j.before → j.counts.tasks ≡ 0 → j.counts.units ≡ 0 → IsWell j
starts-well j disciplined named out groups regions cells tasks units = record {
  rights = subst (λ rs. IsPermutation j.owned.out (loans_out rs)) (sym regions) (subst (λ o. IsPermutation o []) (sym out) (IsPermutation-refl []));
  few = omega (arith, units);
  lengths = ap lengths cells;
  created = subst (λ rs. length rs ≡ 1 + j.counts.tasks) (sym regions) (omega (arith, tasks));
  light = subst (λ rs. weight_of rs ≤ 2 * size j.program.body + 1) (sym regions) (root-light j.program.body);
  holds = λ i run is. absurd (idle i run is);
  present = λ i run is. absurd (idle i run is);
  apart = λ i k one two other is also. absurd (idle i one is);
  course = λ working. record {
    some = subst (λ rs. 0 < length rs) (sym regions) (omega arith);
    sound = subst (λ rs. IsSoundRegions (wholes rs)) (sym regions) (sound-root j.program disciplined (lengths j.cells) named);
    named = subst (λ rs. (i : ℕ) → NamedIn (lengths j.cells) (todo_at (wholes rs) i)) (sym regions) (root-each (λ r. NamedIn (lengths j.cells) (todo r.rest r.groups)) j.program.body named tt);
    runs = λ i run is. absurd (idle i run is);
    begun = λ i run is. absurd (idle i run is);
    copies = subst (λ rs. AreOpen rs j.owned.groups) (sym regions) (subst (AreOpen (root_region j.program.body ∷ [])) (sym groups) (open-none (root_region j.program.body ∷ []) (root-each (λ r. r.groups ≡ []) j.program.body refl refl)));
    older = λ i. subst (λ rs. All young (at rs i).groups) (sym regions) (root-each (λ r. All young r.groups) j.program.body (All-nil young) (All-nil young) i);
    there = λ i. subst (λ rs. All shape (at rs i).groups) (sym regions) (root-each (λ r. All shape r.groups) j.program.body (All-nil shape) (All-nil shape) i);
    kept = ap (λ rs. left_of (wholes rs) (state_of (worths j.owned j.cells) j.counts)) regions ∙ ap (serial j.program.body) begins;
  };
}
  where
    young : Open → Type 0
    young g = g.group < j.counts.units

    shape : Open → Type 0
    shape g = AreInShape (lengths j.cells) g.cells

    idle : (i : ℕ) (run : Run) → (at j.regions i).running ≡ Some run → ⊥
    idle i run is = none-some run (sym (root-each (λ r. r.running ≡ None) j.program.body refl refl i) ∙ ap (λ rs. (at rs i).running) (sym regions) ∙ is)

    begins : state_of (worths j.owned j.cells) j.counts ≡ record { cells = j.before; tasks = 0; units = 0 }
    begins =
        ap (λ c. let s : State = record { cells = c; tasks = j.counts.tasks; units = j.counts.units } in s) (worths-combined j.owned j.cells (none-combined j.owned groups) ∙ cells)
        ∙ ap (λ n. let s : State = record { cells = j.before; tasks = n; units = j.counts.units } in s) tasks
        ∙ ap (λ n. let s : State = record { cells = j.before; tasks = 0; units = n } in s) units

-- ---- all have ended

pub each-ended : (rs : List Region) → all_ended rs ≡ true → (i : ℕ) → (at rs i).ended ≡ true
each-ended [] h i = refl
each-ended (r ∷ rs) h zero = and_left r.ended (all_ended rs) h
each-ended (r ∷ rs) h (suc i) = each-ended rs (and_right r.ended (all_ended rs) h) i

nothing-left : (p k : ℕ) (qs : List ℕ) (s : State) → children_left (λ i. End) p k qs s ≡ s
nothing-left p k [] s = refl
nothing-left p k (q ∷ qs) s =
    ap (λ t. children_left (λ i. End) p (k + 1) qs (if q == p then t else s)) (nothing-left k (k + 1) qs s) ∙ by (q == p) (nothing-left p (k + 1) qs s)
  where
    by : (b : Bool) → children_left (λ i. End) p (k + 1) qs s ≡ s → children_left (λ i. End) p (k + 1) qs (if b then s else s) ≡ s
    by true h = h
    by false h = h

-- an ended job's cells and counts are the serial meaning
pub ended-meaning : (j : Live) → IsWell j → j.failing ≡ false → all_ended j.regions ≡ true → state_of j.cells j.counts ≡ serial_run j.program.body j.before
ended-meaning j w working ended =
    let o = w.course working in
    let s = state_of (worths j.owned j.cells) j.counts in
    let closed : (i : ℕ) → (at j.regions i).groups ≡ [] = λ i. ap (λ (r : Region). r.groups) (sym (at-whole j.regions i)) ∙ (o.sound.placed i).shut (ap (λ (r : Region). r.ended) (at-whole j.regions i) ∙ each-ended j.regions ended i) in
    let over : (i : ℕ) → todo_at (wholes j.regions) i ≡ End = λ i. (o.sound.placed i).over (ap (λ (r : Region). r.ended) (at-whole j.regions i) ∙ each-ended j.regions ended i) in
    ap (λ c. state_of c j.counts) (sym (worths-combined j.owned j.cells (none-combined j.owned (none-open j.regions j.owned.groups closed o.copies))))
    ∙ sym (ap (λ (f : ℕ → Body). left_of_job f (parents (wholes j.regions)) s) (λ z i. over i z) ∙ nothing-left 0 1 (parents (wholes j.regions)) s)
    ∙ o.kept

-- ---- a piece comes back without results

pub fails-out : (j : Live) (d : Came) → IsWell j → (out : IsOut j.regions d) → Contains j.owned.out (loan_of out.0.0 d.lent)
fails-out j d w out =
    Contains-permutation (loans_out j.regions) j.owned.out (loan_of out.0.0 d.lent) (IsPermutation-sym j.owned.out (loans_out j.regions) w.rights)
    (out-contained j.regions d.task (run_of out.0.0 d) out.0.1)

pub fails-well : (j : Live) (d : Came) (owned : Owned) → IsWell j → (out : IsOut j.regions d) → IsPermutation j.owned.out (loan_of out.0.0 d.lent ∷ owned.out) → owned.groups ≡ j.owned.groups
    → IsWell (record j { regions = updated j.regions d.task region_stopped; owned = owned; failing = true })
fails-well j d owned w out ended groups = record {
  rights =
      permutation_rest (loan_of out.0.0 d.lent) owned.out (loans_out (updated j.regions d.task region_stopped))
      (IsPermutation-trans (loan_of out.0.0 d.lent ∷ owned.out) j.owned.out (loan_of out.0.0 d.lent ∷ loans_out (updated j.regions d.task region_stopped)) (IsPermutation-sym j.owned.out (loan_of out.0.0 d.lent ∷ owned.out) ended)
      (IsPermutation-trans j.owned.out (loans_out j.regions) (loan_of out.0.0 d.lent ∷ loans_out (updated j.regions d.task region_stopped)) w.rights
      (one-less j.regions d.task (run_of out.0.0 d) out.0.1)));
  few = w.few;
  lengths = w.lengths;
  created = length-updated j.regions d.task region_stopped ∙ w.created;
  light = omega (arith, w.light, weight-stopped j.regions d.task known);
  holds = λ k run is. let r = still k run is in subst (λ x. Holds x.own (touches_out x run) run.lease.uses) (sym r) (w.holds k run (was k run is));
  present = λ k run is. subst (λ cells. run.lease ≡ lease_of (lent_from cells run.lease.uses)) (sym worths-now) (w.present k run (was k run is));
  apart = λ k l one two other is also. w.apart k l one two other (was k one is) (was l two also);
  course = λ working. absurd (true≢false working);
}
  where
    worths-now : worths owned j.cells ≡ worths j.owned j.cells
    worths-now = worths-same j.owned owned j.cells j.cells refl (λ cell. ap (λ gs. option_map (worth_over gs cell) (cell_of j.cells cell)) groups)

    known : d.task < length j.regions
    known = runs-within j.regions d.task (run_of out.0.0 d) out.0.1

    -- who has a piece out still has it, and nothing else of it changed
    still : (k : ℕ) (run : Run) → (at (updated j.regions d.task region_stopped) k).running ≡ Some run → at (updated j.regions d.task region_stopped) k ≡ at j.regions k
    still k run is = (stopped-others j.regions d.task k run is).1

    was : (k : ℕ) (run : Run) → (at (updated j.regions d.task region_stopped) k).running ≡ Some run → (at j.regions k).running ≡ Some run
    was k run is = sym (ap (λ (r : Region). r.running) (still k run is)) ∙ is

-- where a job stands, by what is known of it
pub state-is-failing : (j : Live) → j.failing ≡ true → any_out j.regions ≡ true → Failing ≡ state_in j
state-is-failing j fails out = rw (fails, out)

pub state-is-failed : (j : Live) → j.failing ≡ true → any_out j.regions ≡ false → Failed ≡ state_in j
state-is-failed j fails out = rw (fails, out)

pub state-is-ended : (j : Live) → j.failing ≡ false → all_ended j.regions ≡ true → Ended ≡ state_in j
state-is-ended j fails ended = rw (fails, ended)

pub state-is-working : (j : Live) → j.failing ≡ false → all_ended j.regions ≡ false → Working ≡ state_in j
state-is-working j fails ended = rw (fails, ended)

pub state-ended : (j : Live) → state_in j ≡ Ended → (j.failing ≡ false) × (all_ended j.regions ≡ true)
state-ended j h = by j.failing (any_out j.regions) (all_ended j.regions) h
  where
    by : (f a e : Bool) → (if f then (if a then Failing else Failed) else if e then Ended else Working) ≡ Ended → (f ≡ false) × (e ≡ true)
    by false a true h = (refl, refl)
    by true true e h = cc
    by f a e h = cc

-- a task with a piece out has not ended
pub one-out : (rs : List Region) → any_out rs ≡ true → (i : ℕ) × (run : Run) × ((at rs i).running ≡ Some run)
one-out [] h = absurd (true≢false (sym h))
one-out (r ∷ rs) h = by r.running refl (λ g. one-out rs g)
  where
    by : (o : Option Run) → r.running ≡ o → (any_out rs ≡ true → (i : ℕ) × (run : Run) × ((at rs i).running ≡ Some run)) → (i : ℕ) × (run : Run) × ((at (r ∷ rs) i).running ≡ Some run)
    by (Some run) e more = (0, run, e)
    by None e more = let m = more (ap (λ o. is_some o || any_out rs) (sym e) ∙ h) in (suc m.0, m.1, m.2)

-- no piece of an ended job is out
pub ended-none-out : (j : Live) → IsWell j → j.failing ≡ false → all_ended j.regions ≡ true → any_out j.regions ≡ false
ended-none-out j w working ended = false_from_ne_true (any_out j.regions) (λ e.
    let o = one-out j.regions e in
    true≢false (sym (each-ended j.regions ended o.0) ∙ ((w.course working).runs o.0 o.1 o.2).alive))
