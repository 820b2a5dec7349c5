-- A job's fields as its invariant sees them, and what a claim and a settle find of them and make of them.
use Rattle.std.proofs.Common.{◌≡◌, ℕ, ◌+◌, ◌<◌, ◌≤◌, ◌∙◌, refl, ap, ap₂, sym, subst, arith, List, ◌∷◌, Bor, Bool, true, false, true≢false, length, ◌↔◌, IsTrue, if◌then◌else◌, Option, Some, IfSome, option_map, get_or, IsPermutation}
use Rattle.ot_job.proofs.Common.{size, expanded_of, Cell, Operation, Use, tasks_in-≤-size, all_back, Keeping, Owned, loan_of, leading_len, Region, group_next, tasks_next, weight_of, IsBack, claimable_of, is_claimable, picked_at, live_of, Live, at, IsRoomFor, Opens, CreatesInOrder, Settles, regions_settled, units_of, claimable_in, Came, IsOut, taken_by, worker_in, IsWell, IsOnCourse, MaySettle, Inside}
use Rattle.ot_owner.specs.Keeping.{IsOpenable}
use Rattle.ot_job_task.specs.Regions.{is_control}
use Rattle.ot_job.specs.Calls.{MayEnd, MayTakeBack}
use Rattle.ot_job.proofs.CourseLemmas.{counts-few, settle-lighter, settle-well}
use Rattle.ot_job.proofs.DealingsLemmas.{picked-in, works}
use Rattle.ot_job.proofs.LendingLemmas.{back-unsummed, opens}
use Rattle.ot_job.proofs.OpenLemmas.{may-open}
use Rattle.ot_job.proofs.ClaimableLemmas.{picked-claimable}
use Rattle.ot_job.proofs.SettleLemmas.{run_of, worker-is, has-piece, here-is, loan-out, cells-there}
use Rattle.ot_job.proofs.WellLemmas.{settle-may}

-- the task that is picked: the job doesn't fail, and it is among the claimable tasks
pub record IsPicked (s : Inside) (pick i : ℕ) : Type 0 where
  pub working : s.failing ≡ false
  pub is : picked_at (claimable_of s.tasks) pick ≡ Some i
  pub known : i < length s.tasks
  pub can : is_claimable s.tasks i ≡ true

pub picked-here : (s : Inside) (l : Live) (pick i : ℕ) (told : Option ℕ) → live_of s ≡ l → told ≡ picked_at (claimable_in l) pick → told ≡ Some i → IsPicked s pick i
picked-here s l pick i told view is some =
    let found = picked-in s.failing s.tasks pick i (ap (λ (x : Live). picked_at (claimable_in x) pick) view ∙ sym is ∙ some) in
    let both = picked-claimable s.tasks pick i found.1 in
    record { working = found.0; is = found.1; known = both.0; can = both.1 }

-- a piece that is found among the tasks is out, and one that isn't found isn't out
module _ (s : Inside) (d : Came) (tasks : List Region) (found : Bool) (same : tasks ≡ s.tasks) (is : IsTrue found ↔ IsOut tasks d) where
  pub found-out : found ≡ true → IsOut s.tasks d
  found-out h = subst (λ (l : List Region). IsOut l d) same (is.0 h)

  pub not-found-out : found ≡ false → IsOut s.tasks d → ⊥
  not-found-out h out = true≢false (sym (is.1 (subst (λ (l : List Region). IsOut l d) (sym same) out)) ∙ h)

-- told of the piece by the number of its task that the code has
pub found-as : (s : Inside) (d : Came) (task : ℕ) → task ≡ d.task → (tasks : List Region) (found : Bool) → tasks ≡ s.tasks → IsTrue found ↔ IsOut tasks d → found ≡ true → IsOut s.tasks (record d { task = task })
found-as s d task of tasks found same is h = subst (λ n. IsOut s.tasks (record d { task = n })) (sym of) (found-out s d tasks found same is h)

-- the job once it is settled, by its parts
abbrev pub after : Inside → List (List ℕ) → Owned → List Region → (tasks units : ℕ) → Live
after s cells owned regions tasks units = record {
  program = expanded_of s.spec.checked.program;
  before = s.spec.before;
  cells = cells;
  owned = owned;
  regions = regions;
  counts = record { tasks = s.counts.tasks + tasks; units = s.counts.units + units };
  failing = s.failing;
}

pub record IsSettled (s : Inside) (d : Came) (cells : List (List ℕ)) (owned : Owned) (regions : List Region) (tasks units : ℕ) : Type 0 where
  pub tasks-few : s.counts.tasks + tasks ≤ 20000
  pub units-few : s.counts.units + units ≤ 20000
  pub well : IsWell (after s cells owned regions tasks units)
  pub settles : Settles (live_of s) d units (after s cells owned regions tasks units)

-- what the code counts and opens, told of the task's region
module _ (rs : List Region) (d : Came) (out : IsOut rs d) (t : Region) (here : t ≡ get_or rs d.task t) where
  pub units-more : (len next : ℕ) → len ≡ leading_len d.assigns → next ≡ (if is_control t.rest then 1 else 0) → units_of d.assigns (at rs d.task).rest ≡ len + next
  units-more len next is control =
      let control-is = control ∙ ap (λ (x : Region). if is_control x.rest then 1 else 0) (sym (here-is rs d out t here)) in
      omega (arith, is, control-is)

  pub tasks-more : (next : ℕ) → next ≡ tasks_next t.rest → next ≡ tasks_next (at rs d.task).rest
  tasks-more next is = is ∙ ap (λ (x : Region). tasks_next x.rest) (sym (here-is rs d out t here))

  pub fits : (next : Option (Operation × Bor (List Cell))) → option_map (λ g. (g.0, g.1.now)) next ≡ group_next t.rest → (room : Option (Operation × List Use))
      → IsRoomFor (option_map (λ g. (g.0, g.1.now)) next) room → IsRoomFor (group_next (at rs d.task).rest) room
  fits next told room names = subst (λ (n : Option (Operation × List Cell)). IsRoomFor n room) (told ∙ ap (λ (x : Region). group_next x.rest) (sym (here-is rs d out t here))) names

module _ (s : Inside) (w : IsWell (live_of s)) (working : s.failing ≡ false) (d : Came) (out : IsOut s.tasks d) where
  abbrev r : Region
  r = at s.tasks d.task

  course : IsOnCourse (live_of s)
  course = w.course working

  may : MaySettle (live_of s)
  may = settle-may (live_of s) w course

  pub may-end : MayEnd s.tasks d.task
  may-end = record {
    piece = has-piece s.tasks d out;
    alive = (course.runs d.task (run_of out.0.0 d) out.0.1).alive;
    finish = λ some. let kin = may.kin d.task (run_of out.0.0 d) out.0.1 some in record { parent = kin.0; ready = kin.1; unfinished = kin.2 };
  }

  pub may-take-back : (owners : Keeping) → owners.owned ≡ s.owners.owned → (room : Option (Operation × List Use)) → IfSome room (λ _. IsOpenable owners) → IsRoomFor (group_next r.rest) room
      → MayTakeBack owners s.cells d.lent out.0.0 room s.counts.units
  may-take-back owners is room openable fits = subst (λ (b : Owned). MayTakeBack (record owners { owned = b }) s.cells d.lent out.0.0 room s.counts.units) (sym is) (record {
    openable = openable;
    opens = may-open (live_of s) w course d.task (run_of out.0.0 d) out.0.1 room fits;
    out = loan-out (live_of s) d may out;
    there = cells-there (live_of s) d may out;
    unsummed = back-unsummed (live_of s) course d.task (run_of out.0.0 d) out.0.1 d.lent refl;
  })

  -- what a settle has made of the cells, of what is out and open, and of the tasks
  module _ (cells : List (List ℕ)) (owned : Owned) (room : Option (Operation × List Use)) (names : IsRoomFor (group_next r.rest) room) (b : IsBack s.owners.owned s.cells d out.0.0 room s.counts.units owned cells)
      (ordered : CreatesInOrder r) (regions : List Region) (tasks units : ℕ) (regions-are : regions ≡ regions_settled (taken_by d.answer) s.counts.units d.task s.tasks) (tasks-are : tasks ≡ tasks_next r.rest)
      (units-are : units_of d.assigns r.rest ≡ units) where
    groups-now : Opens (group_next r.rest) s.counts.units (all_back out.0.0 d.lent s.owners.owned.groups) owned.groups
    groups-now = opens (group_next r.rest) room s.counts.units (all_back out.0.0 d.lent s.owners.owned.groups) owned.groups names b.groups

    well-now : IsWell (after s cells owned (regions_settled (taken_by d.answer) s.counts.units d.task s.tasks) (tasks_next r.rest) (units_of d.assigns r.rest))
    well-now = settle-well (live_of s) w working d out b.run.made b.run.told cells owned b.worth b.lengths b.ended groups-now ordered

    few : (s.counts.tasks + tasks ≤ 20000) × (s.counts.units + units ≤ 20000)
    few =
        let counts = counts-few _ (well-now.course working) in
        let small : size (expanded_of s.spec.checked.program).body ≤ 20000 = omega (arith, s.spec.checked.program.few, s.spec.checked.program.statements_are) in
        (omega (arith, counts.0, tasks-are, small, tasks_in-≤-size (expanded_of s.spec.checked.program).body), omega (arith, counts.1, units-are, small))

    now-is : after s cells owned regions tasks units ≡ after s cells owned (regions_settled (taken_by d.answer) s.counts.units d.task s.tasks) (tasks_next r.rest) (units_of d.assigns r.rest)
    now-is =
        ap (λ (l : List Region). after s cells owned l tasks units) regions-are
        ∙ ap₂ (after s cells owned (regions_settled (taken_by d.answer) s.counts.units d.task s.tasks)) tasks-are (sym units-are)

    worker : worker_in r ≡ out.0.0
    worker = worker-is r out.0.0 (ap (option_map (λ run. run.worker)) out.0.1)

    pub is-settled : IsSettled s d cells owned regions tasks units
    is-settled = record {
      tasks-few = few.0;
      units-few = few.1;
      well = subst IsWell (sym now-is) well-now;
      settles = record {
        out = out;
        working = works (live_of s) d w out working;
        lighter = omega (arith, settle-lighter (live_of s) w working d out b.run.made b.run.told cells owned b.worth b.lengths b.ended groups-now ordered, ap weight_of regions-are);
        few = few.1;
        units = sym units-are;
        stored = b.stored;
        lengths = b.lengths;
        groups = subst (λ n. Opens (group_next r.rest) s.counts.units (all_back n d.lent s.owners.owned.groups) owned.groups) (sym worker) groups-now;
        worth = b.worth;
        ended = subst (λ n. IsPermutation s.owners.owned.out (loan_of n d.lent ∷ owned.out)) (sym worker) b.ended;
        now = now-is;
      };
    }
