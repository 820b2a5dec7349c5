-- A claim is free to be made, and leaves a job well.
use Rattle.std.proofs.Common.{◌≡◌, ◌≢◌, ℕ, zero, suc, ◌<◌, true, false, not, ◌&&◌, ◌||◌, List, [], ◌∷◌, length, refl, sym, ap, subst, ◌∙◌, ⊎_elim, arith, true≢false, Option, Some, None, is_some, slice_get, ◌==◌, All, Contains, IsSome, IsPermutation}
use Rattle.ot_job.proofs.Common.{cases_eq, nat_tests, same_Some, length-map, Contains-permutation, All-permutation, IsPermutation-sym, IsPermutation-trans, IsPermutation-cons, Set, Fold, If, Body, End, Next, append, NamedIn, AreInShape, updated, lengths, cell_of, AreInOrder, Conflict, Use, State, IsReady, IsUnfinished, is_ready, and_left, and_right, or_true, not_true, Lease, lease_of, lent_from, Owned, IsFreeFor, begun_for, left_of_job, Open, todo, AreAssigns, Region, Run, at, parent_of, todo_at, parents, left_of, IsRootOrReady, IsSoundRegions, length-updated, leading, after_parts, test_of, groups_passed, awake, piece_begun, group_passed, assigns_out, whole_region, wholes, loan_in, with_loan, loans_out, AreOpen, left_open, RunsWell, IsWell, IsOnCourse, MaySettle, worths, AreWorthSame, worths-same, state_of, Live, AreHeld, piece_touches, assign_touches, test_touches, is_claimable, Holds, touches_out, is_let_go}
use Rattle.ot_parts.proofs.LeadingLemmas.{leading-behind}
use Rattle.ot_model.specs.declared.fold.Fold.TheVariants.{Plus}
use Rattle.ot_job.proofs.WeighingLemmas.{weight-begun}
use Rattle.ot_job.proofs.KeptLemmas.{parents-updated, at-updated, at-updated-other, todo-append}
use Rattle.ot_job.proofs.ChangedLemmas.{begun-changed}
use Rattle.ot_job.proofs.WholeLemmas.{loan, wholes-begun, one-more, loans-each}
use Rattle.ot_job.proofs.OpeningLemmas.{open-passed, open-grown}
use Rattle.ot_job.proofs.AwakeLemmas.{sound-awake}
use Rattle.ot_job.proofs.RightsLemmas.{at-whole, named-front, named-back}
use Rattle.ot_job.proofs.EachLemmas.{each-begun, at-each, field-at}
use Rattle.ot_job.proofs.HoldingLemmas.{course-holds, course-apart}
use Rattle.ot_job.proofs.ClaimableLemmas.{ready-from}
use Rattle.ot_job.proofs.OpenLemmas.{pieces_apart}
use Rattle.ot_job_task.proofs.HeldLemmas.{AllIn, all-append, reads-in, held-there}

pub leading-assigns : (b : Body) → AreAssigns (leading b)
leading-assigns (Next (Set c e) rest) = leading-assigns rest
leading-assigns (Next (Fold op c e) rest) = leading-assigns rest
leading-assigns b = tt

-- passing a group's end leaves what is left
todo-passed : (rest : Body) (gs : List Open) → todo (groups_passed rest gs).rest (groups_passed rest gs).groups ≡ todo rest gs
todo-passed End [] = refl
todo-passed b gs = refl

idle-whole : (r : Region) → r.running ≡ None → whole_region r ≡ record r { running = None }
idle-whole r idle = ap (λ o. record r { rest = append (assigns_out o) r.rest; running = None }) idle

pub none-running : (o : Option Run) → is_some o ≡ false → o ≡ None
none-running None e = refl
none-running (Some x) e = absurd (true≢false e)

-- a claimable task has no piece out
pub claimable-idle : (rs : List Region) (i : ℕ) → is_claimable rs i ≡ true → (at rs i).running ≡ None
claimable-idle rs i can =
    none-running (at rs i).running
    (not_true (is_some (at rs i).running)
    (and_right (not (at rs i).ended) (not (is_some (at rs i).running))
    (and_left (not (at rs i).ended && not (is_some (at rs i).running)) (((i == 0) || is_ready (at rs (at rs i).parent).children (at rs i).child) && is_let_go (at rs i)) can)))

-- and neither a wait nor a group's end holds it
pub claimable-goes : (rs : List Region) (i : ℕ) → is_claimable rs i ≡ true → is_let_go (at rs i) ≡ true
claimable-goes rs i can =
    and_right ((i == 0) || is_ready (at rs (at rs i).parent).children (at rs i).child) (is_let_go (at rs i))
    (and_right (not (at rs i).ended && not (is_some (at rs i).running)) (((i == 0) || is_ready (at rs (at rs i).parent).children (at rs i).child) && is_let_go (at rs i)) can)

-- ---- one claim

module _ (lens : List ℕ) (rs : List Region) (s : IsSoundRegions (wholes rs)) (named : (i : ℕ) → NamedIn lens (todo_at (wholes rs) i))
    (runs : (i : ℕ) (run : Run) → (at rs i).running ≡ Some run → RunsWell (at rs i) run)
    (started : (i : ℕ) (run : Run) → (at rs i).running ≡ Some run → IsRootOrReady (wholes rs) i)
    (i : ℕ) (h : i < length rs) (can : is_claimable rs i ≡ true) (worker : ℕ) (lease : Lease) (are : AreHeld (at rs i) lease.uses) (ordered : AreInOrder lease.uses) where
  abbrev r : Region
  r = at rs i

  abbrev rs' : List Region
  rs' = updated rs i (piece_begun worker lease)

  first-half : (not r.ended && not (is_some r.running)) ≡ true
  first-half = and_left (not r.ended && not (is_some r.running)) (((i == 0) || is_ready (at rs r.parent).children r.child) && is_let_go r) can

  second-half : (((i == 0) || is_ready (at rs r.parent).children r.child) && is_let_go r) ≡ true
  second-half = and_right (not r.ended && not (is_some r.running)) (((i == 0) || is_ready (at rs r.parent).children r.child) && is_let_go r) can

  pub idle : r.running ≡ None
  idle = claimable-idle rs i can

  awake-alive : r.ended ≡ false
  awake-alive = not_true r.ended (and_left (not r.ended) (not (is_some r.running)) first-half)

  hw : i < length (wholes rs)
  hw = omega (arith, h, length-map rs whole_region)

  let-go : is_let_go (at (wholes rs) i) ≡ true
  let-go = ap is_let_go (at-whole rs i ∙ idle-whole r idle) ∙ and_right ((i == 0) || is_ready (at rs r.parent).children r.child) (is_let_go r) second-half

  wholes-now : wholes rs' ≡ updated (wholes rs) i awake
  wholes-now = wholes-begun worker lease rs i idle

  pub sound-now : IsSoundRegions (wholes rs')
  sound-now = subst IsSoundRegions (sym wholes-now) (sound-awake (wholes rs) i hw s let-go)

  todo-now : (k : ℕ) → todo_at (wholes rs') k ≡ todo_at (wholes rs) k
  todo-now k =
      ap (λ l. todo_at l k) wholes-now
      ∙ field-at (λ (x : Region). todo x.rest x.groups) awake (wholes rs) i (todo-passed (at (wholes rs) i).rest (at (wholes rs) i).groups) k

  pub named-now : (k : ℕ) → NamedIn lens (todo_at (wholes rs') k)
  named-now k = subst (NamedIn lens) (sym (todo-now k)) (named k)

  pub well-now : (k : ℕ) (run : Run) → (at rs' k).running ≡ Some run → RunsWell (at rs' k) run
  well-now = at-each (λ x. (run : Run) → x.running ≡ Some run → RunsWell x run) rs i (piece_begun worker lease) runs at-i
    where
      at-i : (run : Run) → (piece_begun worker lease r).running ≡ Some run → RunsWell (piece_begun worker lease r) run
      at-i run e =
          subst (RunsWell (piece_begun worker lease r)) (same_Some (record { worker = worker; assigns = leading (awake r).rest; lease = lease }) run e)
          (record { modes = are; ordered = ordered; assigns = leading-assigns (awake r).rest; stops = leading-behind (awake r).rest; calm = refl; alive = awake-alive })

  begun-here : IsRootOrReady (wholes rs) i
  begun-here pos =
      let ready : is_ready (at rs r.parent).children r.child ≡ true = ⊎_elim (λ z. absurd (let n : i ≡ 0 = (grind (arith, nat_tests)) in omega (arith, n, pos))) (λ e. e)
      (or_true (i == 0) (is_ready (at rs r.parent).children r.child) (and_left ((i == 0) || is_ready (at rs r.parent).children r.child) (is_let_go r) second-half)) in
      let one : parent_of (wholes rs) i ≡ r.parent = ap (λ (x : Region). x.parent) (at-whole rs i) in
      let two : (at (wholes rs) i).child ≡ r.child = ap (λ (x : Region). x.child) (at-whole rs i) in
      let table : (at (wholes rs) (parent_of (wholes rs) i)).children ≡ (at rs r.parent).children = ap (λ n. (at (wholes rs) n).children) one ∙ ap (λ (x : Region). x.children) (at-whole rs r.parent) in
      (hw, subst (λ c. IsReady (at (wholes rs) (parent_of (wholes rs) i)).children c) (sym two) (subst (λ t. IsReady t r.child) (sym table) (ready-from (at rs r.parent).children r.child ready)))

  kept-begun : (k : ℕ) → IsRootOrReady (wholes rs) k → IsRootOrReady (wholes rs') k
  kept-begun k b = subst (λ l. IsRootOrReady l k) (sym wholes-now) (begun-changed (wholes rs) i awake hw (record { parent = λ r. refl; child = λ r. refl; own = λ r. refl; children = λ r. refl; ended = λ r. refl }) k b)

  pub started-now : (k : ℕ) (run : Run) → (at rs' k).running ≡ Some run → IsRootOrReady (wholes rs') k
  started-now k run is =
      ⊎_elim (λ e. kept-begun k (subst (IsRootOrReady (wholes rs)) (sym e) begun-here))
      (λ e. kept-begun k (started k run (sym (ap (λ (x : Region). x.running) (at-updated-other rs i k (piece_begun worker lease) e)) ∙ is))) (cases_eq k i)

  -- what is left of the job stays
  pub kept-now : (t : State) → left_of (wholes rs') t ≡ left_of (wholes rs) t
  kept-now t =
      ap (λ (l : List Region). left_of_job (todo_at (wholes rs')) (parents l) t) wholes-now
      ∙ ap (λ ps. left_of_job (todo_at (wholes rs')) ps t) (parents-updated (wholes rs) i awake (λ x. refl))
      ∙ ap (λ (f : ℕ → Body). left_of_job f (parents (wholes rs)) t) (λ z k. todo-now k z)

  -- what is out doesn't conflict with it
  apart-from : (k : ℕ) (run : Run) → (at rs k).running ≡ Some run → Conflict run.lease.uses lease.uses → ⊥
  apart-from k run is =
      let differs : k ≢ i = λ e. (let none : None ≡ Some run = sym idle ∙ ap (λ n. (at rs n).running) (sym e) ∙ is in cc) in
      pieces_apart rs' sound-now lens named-now well-now started-now k i run (record { worker = worker; assigns = leading (awake r).rest; lease = lease })
      (ap (λ (x : Region). x.running) (at-updated-other rs i k (piece_begun worker lease) differs) ∙ is)
      (ap (λ (x : Region). x.running) (at-updated rs i (piece_begun worker lease) h)) differs

  pub free-now : IsFreeFor (loans_out rs) lease.uses
  free-now = loans-each (λ l. Conflict l.lease.uses lease.uses → ⊥) rs apart-from

-- ---- a job on its course

-- what a task goes on with names cells that are there
pub named-awake : (j : Live) → IsOnCourse j → (i : ℕ) → NamedIn (lengths j.cells) (awake (at j.regions i)).rest
named-awake j w i =
    let lens = lengths j.cells in
    let r = at j.regions i in
    let all = subst (λ (x : Region). NamedIn lens (todo x.rest x.groups)) (at-whole j.regions i) (w.named i) in
    let left_of_job = named-back lens (assigns_out r.running) (todo r.rest r.groups) (subst (NamedIn lens) (todo-append (assigns_out r.running) r.rest r.groups) all) in
    named-front lens (awake r).rest (awake r).groups (subst (NamedIn lens) (sym (todo-passed r.rest r.groups)) left_of_job)

-- what its piece holds is free
pub claim-free : (j : Live) → IsWell j → IsOnCourse j → (i : ℕ) → i < length j.regions → is_claimable j.regions i ≡ true → (d : List Use) → AreHeld (at j.regions i) d → AreInOrder d → IsFreeFor j.owned.out d
claim-free j w o i h can d are ordered =
    All-permutation (λ l. Conflict l.lease.uses d → ⊥) (loans_out j.regions) j.owned.out (IsPermutation-sym j.owned.out (loans_out j.regions) w.rights)
    (free-now (lengths j.cells) j.regions o.sound o.named o.runs o.begun i h can 0 (record { uses = d; firsts = [] }) are ordered)

-- the inputs of all pieces, where one begins
inputs-begun : (before after : List (List ℕ)) (rs : List Region) (i worker : ℕ) (lease : Lease) → i < length rs → after ≡ before → lease ≡ lease_of (lent_from before lease.uses)
    → ((k : ℕ) (run : Run) → (at rs k).running ≡ Some run → run.lease ≡ lease_of (lent_from before run.lease.uses))
    → (k : ℕ) (run : Run) → (at (updated rs i (piece_begun worker lease)) k).running ≡ Some run → run.lease ≡ lease_of (lent_from after run.lease.uses)
inputs-begun before after rs i worker lease h same fresh old k run is =
    subst (λ cells. run.lease ≡ lease_of (lent_from cells run.lease.uses)) (sym same)
    (at-each (λ x. (run : Run) → x.running ≡ Some run → run.lease ≡ lease_of (lent_from before run.lease.uses)) rs i (piece_begun worker lease) old
    (λ run is. subst (λ (r : Run). r.lease ≡ lease_of (lent_from before r.lease.uses)) (same_Some (record { worker = worker; assigns = leading (awake (at rs i)).rest; lease = lease }) run is) fresh) k run is)

module _ (j : Live) (w : IsWell j) (working : j.failing ≡ false) (i : ℕ) (h : i < length j.regions) (can : is_claimable j.regions i ≡ true) (worker : ℕ) (lease : Lease)
    (are : AreHeld (at j.regions i) lease.uses) (ordered : AreInOrder lease.uses) (fresh : lease ≡ lease_of (lent_from (worths j.owned j.cells) lease.uses))
    (cells : List (List ℕ)) (owned : Owned) (long : lengths cells ≡ lengths j.cells) (same : AreWorthSame j.owned owned j.cells cells)
    (out : IsPermutation (loan worker lease ∷ j.owned.out) owned.out)
    (groups : owned.groups ≡ begun_for worker lease.uses (left_open (group_passed (at j.regions i)) j.owned.groups)) where
  abbrev pub claimed : Live
  claimed = record j { regions = updated j.regions i (piece_begun worker lease); cells = cells; owned = owned }

  o : IsOnCourse j
  o = w.course working

  worths-now : worths owned cells ≡ worths j.owned j.cells
  worths-now = worths-same j.owned owned j.cells cells long same

  claim-course : IsOnCourse claimed
  claim-course = record {
    some = omega (arith, o.some, length-updated j.regions i (piece_begun worker lease));
    sound = sound-now (lengths j.cells) j.regions o.sound o.named o.runs o.begun i h can worker lease are ordered;
    named = λ k. subst (λ lens. NamedIn lens (todo_at (wholes claimed.regions) k)) (sym long) (named-now (lengths j.cells) j.regions o.sound o.named o.runs o.begun i h can worker lease are ordered k);
    runs = well-now (lengths j.cells) j.regions o.sound o.named o.runs o.begun i h can worker lease are ordered;
    begun = started-now (lengths j.cells) j.regions o.sound o.named o.runs o.begun i h can worker lease are ordered;
    copies = subst (AreOpen claimed.regions) (sym groups) (open-grown claimed.regions (left_open (group_passed (at j.regions i)) j.owned.groups) worker lease.uses (open-passed j.regions j.owned.groups i (piece_begun worker lease) h (λ r. refl) o.copies));
    older = each-begun (λ g. g.group < j.counts.units) worker lease j.regions i o.older;
    there = λ k. subst (λ lens. All (λ g. AreInShape lens g.cells) (at claimed.regions k).groups) (sym long) (each-begun (λ g. AreInShape (lengths j.cells) g.cells) worker lease j.regions i o.there k);
    kept =
        ap (λ c. left_of (wholes claimed.regions) (state_of c j.counts)) worths-now
        ∙ kept-now (lengths j.cells) j.regions o.sound o.named o.runs o.begun i h can worker lease are ordered (state_of (worths j.owned j.cells) j.counts) ∙ o.kept;
  }

  -- what was taken is held as its touches ask
  pub claim-holds : Holds (at j.regions i).own (piece_touches (leading (awake (at j.regions i)).rest) (test_of (after_parts (awake (at j.regions i)).rest))) lease.uses
  claim-holds =
      let here : at claimed.regions i ≡ piece_begun worker lease (at j.regions i) = at-updated j.regions i (piece_begun worker lease) h in
      let run : Run = record { worker = worker; assigns = leading (awake (at j.regions i)).rest; lease = lease } in
      subst (λ (r : Region). Holds r.own (touches_out r run) lease.uses) here (course-holds claimed claim-course i run (ap (λ (r : Region). r.running) here))

  -- a claim leaves it well
  pub claim-well : IsWell claimed
  claim-well = record {
    rights =
        IsPermutation-trans owned.out (loan worker lease ∷ j.owned.out) (loans_out claimed.regions) (IsPermutation-sym (loan worker lease ∷ j.owned.out) owned.out out)
        (IsPermutation-trans (loan worker lease ∷ j.owned.out) (loan worker lease ∷ loans_out j.regions) (loans_out claimed.regions) (IsPermutation-cons (loan worker lease) j.owned.out (loans_out j.regions) w.rights)
        (IsPermutation-sym (loans_out claimed.regions) (loan worker lease ∷ loans_out j.regions)
        (one-more worker lease j.regions i h (idle (lengths j.cells) j.regions o.sound o.named o.runs o.begun i h can worker lease are ordered))));
    few = w.few;
    lengths = long ∙ w.lengths;
    created = length-updated j.regions i (piece_begun worker lease) ∙ w.created;
    light = omega (arith, w.light, weight-begun worker lease j.regions i h (idle (lengths j.cells) j.regions o.sound o.named o.runs o.begun i h can worker lease are ordered));
    holds = course-holds claimed claim-course;
    present = inputs-begun (worths j.owned j.cells) (worths owned cells) j.regions i worker lease h worths-now fresh w.present;
    apart = course-apart claimed claim-course;
    course = λ z. claim-course;
  }

-- ---- a settle may be made

pub out-contained : (rs : List Region) (i : ℕ) (run : Run) → (at rs i).running ≡ Some run → Contains (loans_out rs) (loan_in run)
out-contained [] i run h = cc
out-contained (r ∷ rs) zero run h = subst (λ o. Contains (with_loan o (loans_out rs)) (loan_in run)) (sym h) (0, omega arith, refl)
out-contained (r ∷ rs) (suc i) run h = by r.running (out-contained rs i run h)
  where
    by : (o : Option Run) → Contains (loans_out rs) (loan_in run) → Contains (with_loan o (loans_out rs)) (loan_in run)
    by None c = c
    by (Some x) (k, within, is) = (suc k, omega (arith, within), is)

piece-named : (lens : List ℕ) (piece : Body) → AreAssigns piece → NamedIn lens piece → AllIn lens (assign_touches piece)
piece-named lens End only n = tt
piece-named lens (Next (Set c e) rest) only n = all-append lens _ _ (all-append lens _ _ (reads-in lens e n.0.1) (n.0.0, tt)) (piece-named lens rest only n.1)
piece-named lens (Next (Fold op c e) rest) only n = all-append lens _ _ (all-append lens _ _ (reads-in lens e n.0.1) (n.0.0, tt)) (piece-named lens rest only n.1)
piece-named lens (Next x rest) only n = absurd only

test-named : (lens : List ℕ) (b : Body) → NamedIn lens b → AllIn lens (test_touches (test_of b))
test-named lens (Next (If e a b) rest) n = reads-in lens e n.0.0
test-named lens b n = tt

pub settle-may : (j : Live) → IsWell j → IsOnCourse j → MaySettle j
settle-may j v w = record { out = out; kin = kin }
  where
    out : (i : ℕ) (run : Run) → (at j.regions i).running ≡ Some run → Contains j.owned.out (loan_in run) × All (λ u. IsSome (cell_of j.cells u.cell)) run.lease.uses
    out i run is =
        let lens = lengths j.cells in
        let r = at j.regions i in
        let well = w.runs i run is in
        let whole-named = subst (λ (x : Region). NamedIn lens x.rest) (at-whole j.regions i) (named-front lens (at (wholes j.regions) i).rest (at (wholes j.regions) i).groups (w.named i)) in
        let both = subst (NamedIn lens) (ap (λ o. append (assigns_out o) r.rest) is) whole-named in (
          Contains-permutation (loans_out j.regions) j.owned.out (loan_in run) (IsPermutation-sym j.owned.out (loans_out j.regions) v.rights) (out-contained j.regions i run is),
          held-there j.cells r.own (piece_touches run.assigns (test_of r.rest)) run.lease.uses
              (all-append lens (assign_touches run.assigns) (test_touches (test_of r.rest)) (piece-named lens run.assigns well.assigns (named-front lens run.assigns (record { group = 0; op = Plus; cells = []; behind = r.rest } ∷ []) both)) (test-named lens r.rest (named-back lens run.assigns r.rest both)))
              well.modes,
        )

    kin : (i : ℕ) (run : Run) → (at j.regions i).running ≡ Some run → 0 < i
        → (parent_of j.regions i < length j.regions) × IsReady (at j.regions (parent_of j.regions i)).children (at j.regions i).child
        × IsUnfinished (at j.regions (parent_of j.regions i)).children (at j.regions i).child
    kin i run is pos =
        let rs = j.regions in
        let piece_begun = w.begun i run is pos in
        let one : parent_of (wholes rs) i ≡ parent_of rs i = ap (λ (x : Region). x.parent) (at-whole rs i) in
        let two : (at (wholes rs) i).child ≡ (at rs i).child = ap (λ (x : Region). x.child) (at-whole rs i) in
        let table : (at (wholes rs) (parent_of (wholes rs) i)).children ≡ (at rs (parent_of rs i)).children = ap (λ n. (at (wholes rs) n).children) one ∙ ap (λ (x : Region). x.children) (at-whole rs (parent_of rs i)) in
        let k = w.sound.kin i pos piece_begun.0 in (
          omega (arith, one, w.sound.down i pos, piece_begun.0, length-map rs whole_region),
          subst (λ t. IsReady t (at rs i).child) table (subst (λ c. IsReady (at (wholes rs) (parent_of (wholes rs) i)).children c) two piece_begun.1),
          record {
            itself = k.entry;
            known = sym (ap (λ t. slice_get t (at rs i).child) table) ∙ ap (slice_get (at (wholes rs) (parent_of (wholes rs) i)).children) (sym two) ∙ k.there;
            unfinished = k.finished ∙ ap (λ (x : Region). x.ended) (at-whole rs i) ∙ (w.runs i run is).alive;
          },
        )
