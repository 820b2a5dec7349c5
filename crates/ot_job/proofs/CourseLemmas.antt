-- A settle leaves a job on its course.
use Rattle.std.proofs.Common.{◌≡◌, ℕ, ◌<◌, ◌≤◌, true, false, List, ◌∷◌, length, refl, sym, ap, subst, ◌∙◌, arith, ◌+◌, Option, Some, None, option_map, nat_lt, IsSome, IsPermutation, All}
use Rattle.ot_job.proofs.Common.{length-map, All-weaker, IsPermutation-sym, IsPermutation-trans, E, Body, append, val, NamedIn, AreInShape, size, tasks_in, cell_of, updated, lengths, AreInOrder, State, serial, serial_run, state_of, Cell, Operation, Use, length-updated, folds_to, EachTouch, IsFine, all_back, Owned, loan_of, LentCell, Lease, lease_of, lent_from, first_at, value_at, AreJoined, worth, worth_over, worths, cell_of-worths, permutation_rest, copies_assigned, todo, openings_of, children_of, unfinished_unawaited, IsFineAt, Region, Run, with_rest, next_task, group_next, at, todo_at, parents, left_of, IsRootOrReady, IsSoundRegions, OnlyFolds, leading, leading_len, test_of, held_mode, piece_touches, assigns_out, whole_region, wholes, loans_out, Opens, RunsWell, Live, weight_of, IsOnCourse, IsWell, Came, IsOut, taken_by, moved_on, regions_settled, units_counted, counts_after, units_of}
use Rattle.ot_owner.proofs.OpenLemmas.{joined-same}
use Rattle.ot_owner.proofs.WorthLemmas.{lengths-worths}
use Rattle.ot_job.proofs.CopiesLemmas.{Lets, mode_at, back-serial, test-serial, HasInputs}
use Rattle.ot_job.proofs.WeighingLemmas.{weight-settled}
use Rattle.ot_job.proofs.KeptLemmas.{at-updated, todo-append, kept-piece}
use Rattle.ot_job.proofs.ChangedLemmas.{begun-changed}
use Rattle.ot_job.proofs.RightsLemmas.{at-whole, fine-innermost, named-front, named-back}
use Rattle.ot_job.proofs.EachLemmas.{each-settled, at-each}
use Rattle.ot_job.proofs.HoldingLemmas.{course-holds, course-apart}
use Rattle.ot_job.proofs.StopLemmas.{sound-piece, may-run}
use Rattle.ot_job.proofs.OpeningLemmas.{open-settled, open-back}
use Rattle.ot_job.proofs.SettleLemmas.{run_of, has-piece, cells-there, runs-within}
use Rattle.ot_job.proofs.WellLemmas.{settle-may}
use Rattle.ot_job.proofs.RunLemmas.{lets-piece, lets-test}
use Rattle.ot_job.proofs.LendingLemmas.{has-inputs, inputs-kept}
use Rattle.ot_job.proofs.CountingLemmas.{left-grows, serial-few, piece-cells, piece-lengths, settled-state}
use Rattle.ot_job.proofs.MovesLemmas.{Goes, goes-on, wholes-settled, still-out, loans-settled, length-settled}

-- a job on its course has counted at most what its program has
pub counts-few : (j : Live) → IsOnCourse j → (j.counts.tasks ≤ tasks_in j.program.body) × (j.counts.units ≤ size j.program.body)
counts-few j o =
    let s = state_of (worths j.owned j.cells) j.counts in
    let g = left-grows (todo_at (wholes j.regions)) (parents (wholes j.regions)) s in
    let f = serial-few j.program.body (record { cells = j.before; tasks = 0; units = 0 }) in
    let t = ap (λ (x : State). x.tasks) o.kept in
    let u = ap (λ (x : State). x.units) o.kept in
    (omega (arith, g.0, t, f.0), omega (arith, g.1, u, f.1))

module _ (j : Live) (w : IsWell j) (working : j.failing ≡ false) (d : Came) (out : IsOut j.regions d)
    (made : (c : Cell) → value_at d.lent c ≡ copies_assigned d.assigns (first_at d.lent) c) (told : d.answer ≡ option_map (λ e. val (value_at d.lent) e) d.test)
    (cells : List (List ℕ)) (owned : Owned) (back : AreJoined d.lent (worth j.owned j.cells) (worth owned cells)) (long : lengths cells ≡ lengths j.cells)
    (ended : IsPermutation j.owned.out (loan_of out.0.0 d.lent ∷ owned.out))
    (groups : Opens (group_next (at j.regions d.task).rest) j.counts.units (all_back out.0.0 d.lent j.owned.groups) owned.groups)
    (ordered : (child : List Use × Body) → next_task (at j.regions d.task).rest ≡ Some child → AreInOrder child.0) where
  abbrev i : ℕ
  i = d.task

  abbrev r : Region
  r = at j.regions i

  abbrev run : Run
  run = run_of out.0.0 d

  abbrev pub settles : Live
  settles = record j {
    regions = regions_settled (taken_by d.answer) j.counts.units i j.regions;
    cells = cells;
    owned = owned;
    counts = counts_after j.counts d.assigns r.rest;
  }

  o : IsOnCourse j
  o = w.course working

  well : RunsWell r run
  well = o.runs i run out.0.1

  known : i < length j.regions
  known = (has-piece j.regions d out).known

  -- ---- the piece

  abbrev ws : List Region
  ws = wholes j.regions

  abbrev lens : List ℕ
  lens = lengths j.cells

  h : i < length ws
  h = omega (arith, known, length-map j.regions whole_region)

  rest-was : (at ws i).rest ≡ append d.assigns r.rest
  rest-was = ap (λ (x : Region). x.rest) (at-whole j.regions i) ∙ ap (λ p. append (assigns_out p) r.rest) out.0.1

  alive : (at ws i).ended ≡ false
  alive = ap (λ (x : Region). x.ended) (at-whole j.regions i) ∙ well.alive

  calm : (at ws i).waiting ≡ None
  calm = ap (λ (x : Region). x.waiting) (at-whole j.regions i) ∙ well.calm

  named-all : NamedIn lens (append d.assigns r.rest)
  named-all = subst (NamedIn lens) rest-was (named-front lens (at ws i).rest (at ws i).groups (o.named i))

  -- the cells as they are worth
  abbrev before : List (List ℕ)
  before = worths j.owned j.cells

  abbrev after : List (List ℕ)
  after = worths owned cells

  backed : AreJoined d.lent (cell_of before) (cell_of after)
  backed = joined-same d.lent (worth j.owned j.cells) (cell_of before) (worth owned cells) (cell_of after) (cell_of-worths j.owned j.cells) (cell_of-worths owned cells) back

  there : All (λ l. IsSome (cell_of before l.cell)) d.lent
  there = All-weaker (λ l. IsSome (cell_of j.cells l.cell)) (λ l. IsSome (cell_of before l.cell)) some d.lent (cells-there j d (settle-may j w o) out)
    where
      by : (f : ℕ → ℕ) (n : Option ℕ) → IsSome n → IsSome (option_map f n)
      by f None h = h
      by f (Some n) h = refl

      some : (l : LentCell) → IsSome (cell_of j.cells l.cell) → IsSome (cell_of before l.cell)
      some l h = subst IsSome (sym (cell_of-worths j.owned j.cells l.cell)) (by (worth_over j.owned.groups l.cell) (cell_of j.cells l.cell) h)

  inputs : All (HasInputs before) d.lent
  inputs = has-inputs before d.lent (ap (λ (l : Lease). l.firsts) (w.present i run out.0.1)) there

  fine-here : IsFine r.own (openings_of r.groups) (children_of (unfinished_unawaited r.waiting r.children)) (append d.assigns r.rest)
  fine-here =
      let f = subst (λ (x : Region). IsFineAt x.own (unfinished_unawaited x.waiting x.children) x.rest x.groups) (at-whole j.regions i) (o.sound.placed i).fine in
      subst (IsFine r.own (openings_of r.groups) (children_of (unfinished_unawaited r.waiting r.children))) (ap (λ p. append (assigns_out p) r.rest) out.0.1)
      (fine-innermost r.own (unfinished_unawaited r.waiting r.children) (whole_region r).rest r.groups f)

  exclusive : (o : Operation) (c : Cell) → folds_to r.own o c ≡ true → OnlyFolds o r.own c
  exclusive = subst (λ (x : Region). (o : Operation) (c : Cell) → folds_to x.own o c ≡ true → OnlyFolds o x.own c) (at-whole j.regions i) (o.sound.placed i).exclusive

  may : EachTouch (Lets (mode_at d.lent)) d.assigns
  may = lets-piece lens r.own (openings_of r.groups) (children_of (unfinished_unawaited r.waiting r.children)) d.assigns r.rest well.assigns named-all fine-here exclusive d.lent well.modes

  -- what came back is what the assigns make of the cells
  cells-now : after ≡ (serial_run d.assigns before).cells
  cells-now =
      back-serial d.lent d.lent before after d.assigns (λ c. refl) inputs made well.assigns may backed there
      (lengths-worths owned cells ∙ long ∙ sym (lengths-worths j.owned j.cells) ∙ sym (piece-lengths d.assigns (record { cells = before; tasks = 0; units = 0 }) well.assigns))

  test-now : (e : E) → test_of r.rest ≡ Some e → taken_by d.answer ≡ nat_lt 0 (val (cell_of after) e)
  test-now e is =
      ap taken_by (told ∙ ap (option_map (λ x. val (value_at d.lent) x)) (out.1 ∙ is))
      ∙ ap (nat_lt 0) (test-serial d.lent d.lent before after d.assigns (λ c. refl) inputs made well.assigns may backed there e
      (lets-test lens r.own (openings_of r.groups) (children_of (unfinished_unawaited r.waiting r.children)) d.assigns r.rest well.assigns named-all fine-here exclusive d.lent well.modes e is)
      ∙ ap (λ c. val (cell_of c) e) (sym cells-now))

  abbrev t : State
  t = state_of before j.counts

  abbrev t1 : State
  t1 = serial d.assigns t

  abbrev ws1 : List Region
  ws1 = updated ws i (with_rest r.rest)

  h1 : i < length ws1
  h1 = omega (arith, h, length-updated ws i (with_rest r.rest))

  here1 : at ws1 i ≡ with_rest r.rest (at ws i)
  here1 = at-updated ws i (with_rest r.rest) h

  rest1 : (at ws1 i).rest ≡ r.rest
  rest1 = ap (λ (x : Region). x.rest) here1

  begun : IsRootOrReady ws i
  begun = o.begun i run out.0.1

  begun1 : (k : ℕ) → IsRootOrReady ws k → IsRootOrReady ws1 k
  begun1 = begun-changed ws i (with_rest r.rest) h (record { parent = λ r. refl; child = λ r. refl; own = λ r. refl; children = λ r. refl; ended = λ r. refl })

  named1 : (k : ℕ) → NamedIn lens (todo_at ws1 k)
  named1 = at-each (λ x. NamedIn lens (todo x.rest x.groups)) ws i (with_rest r.rest) o.named
      (named-back lens d.assigns (todo r.rest (at ws i).groups)
      (subst (NamedIn lens) (ap (λ b. todo b (at ws i).groups) rest-was ∙ todo-append d.assigns r.rest (at ws i).groups) (o.named i)))

  cells1 : t1.cells ≡ after
  cells1 = piece-cells d.assigns t ∙ sym cells-now

  -- ---- the statement behind it

  goes : Goes lens ws1 (moved_on (taken_by d.answer) j.counts.units i ws1) t1 (units_counted (at ws1 i).rest t1)
  goes =
      goes-on lens ws1 (sound-piece ws o.sound i h d.assigns r.rest rest-was well.assigns alive) i h1
      (ap (λ (x : Region). x.ended) here1 ∙ alive) (ap (λ (x : Region). x.waiting) here1 ∙ calm) (begun1 i begun) named1 t1 (taken_by d.answer) j.counts.units
      (ap leading rest1 ∙ well.stops)
      (λ e is. test-now e (sym (ap test_of rest1) ∙ is) ∙ ap (λ c. nat_lt 0 (val (cell_of c) e)) (sym cells1))
      (λ child is. ordered child (sym (ap next_task rest1) ∙ is))

  now-is : wholes settles.regions ≡ moved_on (taken_by d.answer) j.counts.units i ws1
  now-is = wholes-settled (taken_by d.answer) j.counts.units i j.regions known

  state-now : state_of after (counts_after j.counts d.assigns r.rest) ≡ units_counted (at ws1 i).rest t1
  state-now =
      ap (λ c. state_of c (counts_after j.counts d.assigns r.rest)) cells-now
      ∙ sym (settled-state d.assigns r.rest before j.counts well.assigns) ∙ ap (λ b. units_counted b t1) (sym rest1)

  kept-now : left_of (wholes settles.regions) (state_of after (counts_after j.counts d.assigns r.rest)) ≡ serial_run j.program.body j.before
  kept-now =
      ap (λ l. left_of l (state_of after (counts_after j.counts d.assigns r.rest))) now-is
      ∙ ap (left_of (moved_on (taken_by d.answer) j.counts.units i ws1)) state-now
      ∙ goes.same
      ∙ kept-piece ws o.sound i h d.assigns r.rest t rest-was
      (may-run ws o.sound i h d.assigns r.rest rest-was well.assigns alive lens (named-front lens (at ws i).rest (at ws i).groups (o.named i)) calm begun)
      ∙ o.kept

  -- ---- the pieces of others

  other-out : (k : ℕ) (x : Run) → (at settles.regions k).running ≡ Some x → (at j.regions k).running ≡ Some x
  other-out k x is = sym (ap (λ (r : Region). r.running) (still-out (taken_by d.answer) j.counts.units i j.regions k x is).1.1) ∙ is

  runs-now : (k : ℕ) (x : Run) → (at settles.regions k).running ≡ Some x → RunsWell (at settles.regions k) x
  runs-now k x is =
      let a = (still-out (taken_by d.answer) j.counts.units i j.regions k x is).1.1 in
      let v = o.runs k x (other-out k x is) in
      let before = at j.regions k in
      let now = at settles.regions k in
      record {
        modes = λ c. v.modes c ∙ ap (λ p. held_mode p (piece_touches x.assigns (test_of before.rest)) c) (sym (ap (λ (r : Region). r.own) a)) ∙ ap (λ b. held_mode now.own (piece_touches x.assigns (test_of b)) c) (sym (ap (λ (r : Region). r.rest) a));
        ordered = v.ordered;
        assigns = v.assigns;
        stops = ap leading (ap (λ (r : Region). r.rest) a) ∙ v.stops;
        calm = ap (λ (r : Region). r.waiting) a ∙ v.calm;
        alive = ap (λ (r : Region). r.ended) a ∙ v.alive;
      }

  begun-now : (k : ℕ) (x : Run) → (at settles.regions k).running ≡ Some x → IsRootOrReady (wholes settles.regions) k
  begun-now k x is =
      let was = other-out k x is in
      subst (λ l. IsRootOrReady l k) (sym now-is)
      (goes.begun k (omega (arith, runs-within j.regions k x was, length-map j.regions whole_region, length-updated ws i (with_rest r.rest))) (begun1 k (o.begun k x was)))

  inputs-now : (k : ℕ) (x : Run) → (at settles.regions k).running ≡ Some x → x.lease ≡ lease_of (lent_from after x.lease.uses)
  inputs-now k x is =
      let was = other-out k x is in
      w.present k x was
      ∙ ap lease_of (sym (inputs-kept d.lent before after backed x.lease.uses
      (w.apart i k run x (λ e. (still-out (taken_by d.answer) j.counts.units i j.regions k x is).0 (sym e)) out.0.1 was)))

  -- ---- the open groups

  older-now : (k : ℕ) → All (λ g. g.group < settles.counts.units) (at settles.regions k).groups
  older-now =
      each-settled (λ g. g.group < settles.counts.units) (taken_by d.answer) j.counts.units i j.regions
      (λ k. All-weaker (λ g. g.group < j.counts.units) (λ g. g.group < settles.counts.units) (λ g lt. omega (arith, lt)) (at j.regions k).groups (o.older k))
      (λ op cs b rest was. let more : units_of d.assigns r.rest ≡ leading_len d.assigns + 1 = ap (units_of d.assigns) was in omega (arith, more))

  there-now : (k : ℕ) → All (λ g. AreInShape (lengths cells) g.cells) (at settles.regions k).groups
  there-now =
      each-settled (λ g. AreInShape (lengths cells) g.cells) (taken_by d.answer) j.counts.units i j.regions
      (λ k. subst (λ l. All (λ g. AreInShape l g.cells) (at j.regions k).groups) (sym long) (o.there k))
      (λ op cs b rest was. subst (λ l. AreInShape l cs) (sym long) (subst (NamedIn lens) was (named-back lens d.assigns r.rest named-all)).0.0)

  pub settle-course : IsOnCourse settles
  settle-course = record {
    some = omega (arith, o.some, length-map j.regions whole_region, length-updated ws i (with_rest r.rest), goes.long, ap length now-is, length-map settles.regions whole_region);
    sound = subst IsSoundRegions (sym now-is) goes.sound;
    named = λ k. subst (λ l. NamedIn l (todo_at (wholes settles.regions) k)) (sym long) (subst (λ l. NamedIn lens (todo_at l k)) (sym now-is) (goes.named k));
    runs = runs-now;
    begun = begun-now;
    copies =
        open-settled (taken_by d.answer) j.counts.units i j.regions (all_back out.0.0 d.lent j.owned.groups) owned.groups known o.older
        (open-back j.regions j.owned.groups out.0.0 d.lent o.copies) groups;
    older = older-now;
    there = there-now;
    kept = kept-now;
  }

  pub settle-lighter : weight_of settles.regions < weight_of j.regions
  settle-lighter = weight-settled (taken_by d.answer) j.counts.units i j.regions run known out.0.1 well.alive well.stops

  pub settle-well : IsWell settles
  settle-well = record {
    rights =
        permutation_rest (loan_of out.0.0 d.lent) owned.out (loans_out settles.regions)
        (IsPermutation-trans (loan_of out.0.0 d.lent ∷ owned.out) j.owned.out (loan_of out.0.0 d.lent ∷ loans_out settles.regions) (IsPermutation-sym j.owned.out (loan_of out.0.0 d.lent ∷ owned.out) ended)
        (IsPermutation-trans j.owned.out (loans_out j.regions) (loan_of out.0.0 d.lent ∷ loans_out settles.regions) w.rights
        (loans-settled (taken_by d.answer) j.counts.units i j.regions run known out.0.1)));
    few = (counts-few settles settle-course).1;
    lengths = long ∙ w.lengths;
    created = omega (arith, length-settled (taken_by d.answer) j.counts.units i j.regions, w.created);
    light = omega (arith, w.light, weight-settled (taken_by d.answer) j.counts.units i j.regions run known out.0.1 well.alive well.stops);
    holds = course-holds settles settle-course;
    present = inputs-now;
    apart = course-apart settles settle-course;
    course = λ z. settle-course;
  }
