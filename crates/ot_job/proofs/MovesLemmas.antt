-- A task moves on behind its piece, and what a settle leaves of the pieces of others.
use Rattle.std.proofs.Common.{◌≡◌, ℕ, zero, suc, ◌<◌, ◌≤◌, Bool, true, false, List, [], ◌∷◌, ◌++◌, length, refl, sym, ap, subst, ◌∙◌, ◌⊎◌, inl, inr, arith, Option, Some, None, nat_lt, ◌==◌, if◌then◌else◌, ◌+◌, ◌≢◌, IsPermutation, ⊎_elim}
use Rattle.ot_job.proofs.Common.{cases_eq, nat_tests, E, S, Set, Fold, If, Task, Wait, Group, Body, End, Next, append, val, NamedIn, cell_of, updated, AreInOrder, State, bump, either, Use, Cell, Operation, length-updated, left_of_job, Open, todo, Region, with_rest, with_child, new_region, inside, region_stepped, stepped_from, with_created, next_task, control_executed, leading, test_of, region_ended_at, moved_on, units_counted, is_at_end, at, todo_at, parents, left_of, IsRootOrReady, IsSoundRegions, cases_lt, length-map, IsPermutation-refl, IsPermutation-trans, IsPermutation-cons, IsPermutation-swap, none-some, updated-updated, Run, children_at, over, region_stopped, without, tasks_next, told_parent, regions_settled, parent_of, whole_region, wholes, loan_in, with_loan, loans_out, Sibling, with_finished}
use Rattle.ot_model.proofs.NamesLemmas.{NamedIn-append}
use Rattle.ot_job.proofs.KeptLemmas.{todo-append, todo-next, kept-wait, kept-group, kept-if, kept-task, at-updated, at-updated-other, at-more}
use Rattle.ot_job.proofs.ChangedLemmas.{IsKept, begun-changed}
use Rattle.ot_job.proofs.PlaceLemmas.{taken-of}
use Rattle.ot_job.proofs.StopLemmas.{may-test, changed, wholes-executed}
use Rattle.ot_job.proofs.StepLemmas.{waits, sound-branch, sound-wait, sound-enter, rest-here, children-here, tell, tell-field, end-cases, stepped-running, moved-running, moved-long}
use Rattle.ot_job.proofs.CreatedLemmas.{more, long}
use Rattle.ot_job.proofs.GrownLemmas.{sound-task, begun-task}
use Rattle.ot_job.proofs.ClosedLemmas.{long-closed, todo-closed, begun-closed, parents-closed, sound-closed}
use Rattle.ot_job.proofs.RightsLemmas.{named-front, at-whole}
use Rattle.ot_job.proofs.EachLemmas.{at-each, more-each, field-more, moved-by, told-by}
use Rattle.ot_job.proofs.SoundLemmas.{at-past}

-- ---- a task moves on behind its piece: what holds of the regions, and what is left of the job, stays

-- what a step leaves: the regions are sound, what is left of the job is the same, its cells are there, who has begun has
pub record Goes (lens : List ℕ) (ws now : List Region) (t after : State) : Type 0 where
  pub sound : IsSoundRegions now
  pub same : left_of now after ≡ left_of ws t
  pub named : (k : ℕ) → NamedIn lens (todo_at now k)
  pub begun : (k : ℕ) → k < length ws → IsRootOrReady ws k → IsRootOrReady now k
  pub long : length ws ≤ length now

updated-same : (ws : List Region) (i : ℕ) (f g : Region → Region) → f (at ws i) ≡ g (at ws i) → updated ws i f ≡ updated ws i g
updated-same [] i f g same = refl
updated-same (w ∷ ws) zero f g same = ap (λ x. x ∷ ws) same
updated-same (w ∷ ws) (suc i) f g same = ap (λ xs. w ∷ xs) (updated-same ws i f g same)

updated-itself : (ws : List Region) (i : ℕ) → updated ws i (λ r. r) ≡ ws
updated-itself (w ∷ ws) (suc i) = ap (λ xs. w ∷ xs) (updated-itself ws i)
updated-itself ws i = refl

-- a number takes the first body where it isn't 0
taken-by : (n : ℕ) (a b : Body) → (if nat_lt 0 n then a else b) ≡ either n a b
taken-by n a b =
    ⊎_elim (λ e. let one : nat_lt 0 n ≡ false = grind (arith, nat_tests) in let two : (n == 0) ≡ true = grind (arith, nat_tests) in rw (one, two) refl)
    (λ e. let one : nat_lt 0 n ≡ true = grind (arith, nat_tests) in let two : (n == 0) ≡ false = grind (arith, nat_tests) in rw (one, two) refl) (cases_eq n 0)

module _ (lens : List ℕ) (ws : List Region) (s : IsSoundRegions ws) (i : ℕ) (h : i < length ws) (alive : (at ws i).ended ≡ false) (calm : (at ws i).waiting ≡ None)
    (started : IsRootOrReady ws i) (named : (k : ℕ) → NamedIn lens (todo_at ws k)) (t : State) where
  -- what the statement that comes next names
  named-next : (x : S) (rest : Body) → (at ws i).rest ≡ Next x rest → NamedIn lens (Next x (todo rest (at ws i).groups))
  named-next x rest was = subst (NamedIn lens) (ap (λ b. todo b (at ws i).groups) was ∙ todo-next x rest (at ws i).groups) (named i)

  named-changed : (f : Region → Region) → NamedIn lens (todo (f (at ws i)).rest (f (at ws i)).groups) → (k : ℕ) → NamedIn lens (todo_at (updated ws i f) k)
  named-changed f n = at-each (λ r. NamedIn lens (todo r.rest r.groups)) ws i f named n

  -- a step of one region, by what comes next
  goes-changed : (taken : Bool) (g : ℕ) (b : Body) (f : Region → Region) → (at ws i).rest ≡ b → stepped_from taken g b (at ws i) ≡ f (at ws i) → next_task b ≡ None
      → IsKept f → IsSoundRegions (updated ws i f) → (after : State) → left_of (updated ws i f) after ≡ left_of ws t → NamedIn lens (todo (f (at ws i)).rest (f (at ws i)).groups) → Goes lens ws (control_executed taken g i ws) t after
  goes-changed taken g b f was is none keeps sound after same n =
      subst (λ now. Goes lens ws now t after)
      (sym (ap (λ o. with_created i o (updated ws i (region_stepped taken g))) (ap next_task (rest-here ws i ∙ was) ∙ none) ∙ updated-same ws i (region_stepped taken g) f (ap (λ b. stepped_from taken g b (at ws i)) was ∙ is)))
      (record { sound = sound; same = same; named = named-changed f n; begun = λ k below w. begun-changed ws i f h keeps k w; long = omega (arith, length-updated ws i f) })

  goes-wait : (taken : Bool) (g : ℕ) (w : Option (List Use)) (rest : Body) → (at ws i).rest ≡ Next (Wait w) rest → Goes lens ws (control_executed taken g i ws) t (bump 0 1 t)
  goes-wait taken g w rest was =
      goes-changed taken g (Next (Wait w) rest) (waits w rest) was refl refl (record { parent = λ r. refl; child = λ r. refl; own = λ r. refl; children = λ r. refl; ended = λ r. refl })
      (sound-wait ws s i h alive calm w rest was) (bump 0 1 t) (kept-wait ws s i h w rest t was) (named-next (Wait w) rest was).1

  goes-group : (taken : Bool) (g : ℕ) (op : Operation) (cs : List Cell) (b rest : Body) → (at ws i).rest ≡ Next (Group op cs b) rest → Goes lens ws (control_executed taken g i ws) t (bump 0 1 t)
  goes-group taken g op cs b rest was =
      let n = named-next (Group op cs b) rest was in
      goes-changed taken g (Next (Group op cs b) rest) (λ r. inside g op cs b (with_rest rest r)) was refl refl (record { parent = λ r. refl; child = λ r. refl; own = λ r. refl; children = λ r. refl; ended = λ r. refl })
      (sound-enter ws s i h calm started g op cs b rest was) (bump 0 1 t) (kept-group ws s i h g op cs b rest t was) (NamedIn-append lens b (todo rest (at ws i).groups) n.0.1 n.1)

  goes-if : (g : ℕ) (e : E) (a b rest : Body) → (at ws i).rest ≡ Next (If e a b) rest → Goes lens ws (control_executed (nat_lt 0 (val (cell_of t.cells) e)) g i ws) t (bump 0 1 t)
  goes-if g e a b rest was =
      let taken = nat_lt 0 (val (cell_of t.cells) e) in
      let chosen : Body = if taken then a else b in
      let n = named-next (If e a b) rest was in
      goes-changed taken g (Next (If e a b) rest) (with_rest (append chosen rest)) was refl refl (record { parent = λ r. refl; child = λ r. refl; own = λ r. refl; children = λ r. refl; ended = λ r. refl })
      (sound-branch ws s i h alive taken e a b rest was) (bump 0 1 t)
      (ap (λ c. left_of (updated ws i (with_rest (append c rest))) (bump 0 1 t)) (taken-by (val (cell_of t.cells) e) a b)
      ∙ kept-if ws s i h e a b rest t was (may-test ws s i e a b rest was alive lens (named-front lens (at ws i).rest (at ws i).groups (named i)) calm started))
      (subst (NamedIn lens) (sym (todo-append chosen rest (at ws i).groups)) (NamedIn-append lens chosen (todo rest (at ws i).groups) (taken-of (NamedIn lens) taken a b n.0.1 n.0.2) n.1))

  goes-task : (taken : Bool) (g : ℕ) (d : List Use) (b rest : Body) → (at ws i).rest ≡ Next (Task d b) rest → AreInOrder d → Goes lens ws (control_executed taken g i ws) t (bump 1 1 t)
  goes-task taken g d b rest was ordered =
      subst (λ now. Goes lens ws now t (bump 1 1 t)) (sym is) (record {
        sound = sound-task ws s i h alive started d b rest was ordered;
        same = kept-task ws s i h d b rest (length (at rs i).children) t was;
        named = named-now;
        begun = begun-task ws s i h alive started d b rest was ordered;
        long = omega (arith, long rs i hr d b, length-updated ws i (with_rest rest));
      })
    where
      rs : List Region
      rs = updated ws i (with_rest rest)

      hr : i < length rs
      hr = omega (arith, h, length-updated ws i (with_rest rest))

      two : List Region
      two = updated rs i (with_child d)

      new : Region
      new = new_region i (length (at rs i).children) d b

      is : control_executed taken g i ws ≡ more rs i hr d b
      is =
          ap (λ o. with_created i o (updated ws i (region_stepped taken g))) (ap next_task (rest-here ws i ∙ was))
          ∙ ap (with_created i (Some (d, b))) (updated-same ws i (region_stepped taken g) (with_rest rest) (ap (λ b. stepped_from taken g b (at ws i)) was))
          ∙ ap (λ n. two ++ new_region i n d b ∷ []) (children-here rs i)

      n : NamedIn lens (Next (Task d b) (todo rest (at ws i).groups))
      n = named-next (Task d b) rest was

      named-now : (k : ℕ) → NamedIn lens (todo_at (more rs i hr d b) k)
      named-now =
          let old = named-changed (with_rest rest) n.1 in
          more-each (λ r. NamedIn lens (todo r.rest r.groups)) two new (at-each (λ r. NamedIn lens (todo r.rest r.groups)) rs i (with_child d) old (old i)) n.0.1

  -- a group's end is reached
  goes-here : (taken : Bool) (g : ℕ) → (at ws i).rest ≡ End → Goes lens ws (control_executed taken g i ws) t t
  goes-here taken g was =
      goes-changed taken g End (λ r. r) was refl refl (record { parent = λ r. refl; child = λ r. refl; own = λ r. refl; children = λ r. refl; ended = λ r. refl })
      (subst IsSoundRegions (sym (updated-itself ws i)) s) t (ap (λ now. left_of now t) (updated-itself ws i)) (named i)

  -- the body's end is reached
  goes-closed : (at ws i).rest ≡ End → (at ws i).groups ≡ [] → Goes lens ws (region_ended_at i ws) t t
  goes-closed was none = record {
    sound = sound-closed ws s i h was none calm;
    same = ap (λ ps. left_of_job (todo_at (region_ended_at i ws)) ps t) (parents-closed ws s i h was none calm) ∙ ap (λ (f : ℕ → Body). left_of_job f (parents ws) t) (λ z k. todo-closed ws s i h was none calm k z);
    named = λ k. subst (NamedIn lens) (sym (todo-closed ws s i h was none calm k)) (named k);
    begun = λ k below b. begun-closed ws s i h was none calm k b;
    long = omega (arith, long-closed ws s i h was none calm);
  }

  -- the task moves on
  pub goes-on : (taken : Bool) (g : ℕ) → leading (at ws i).rest ≡ End
      → ((e : E) → test_of (at ws i).rest ≡ Some e → taken ≡ nat_lt 0 (val (cell_of t.cells) e))
      → ((child : List Use × Body) → next_task (at ws i).rest ≡ Some child → AreInOrder child.0)
      → Goes lens ws (moved_on taken g i ws) t (units_counted (at ws i).rest t)
  goes-on taken g stops told ordered = by (at ws i).rest refl
    where
      never : {x : S} {b : Body} → Next x b ≡ End → ⊥
      never e = cc

      by : (b : Body) → (at ws i).rest ≡ b → Goes lens ws (if is_at_end (at ws i).rest (at ws i).groups then region_ended_at i ws else control_executed taken g i ws) t (units_counted (at ws i).rest t)
      by End was = rw was (at-groups (at ws i).groups refl)
        where
          at-groups : (gs : List Open) → (at ws i).groups ≡ gs → Goes lens ws (if is_at_end End (at ws i).groups then region_ended_at i ws else control_executed taken g i ws) t t
          at-groups [] none = rw none (goes-closed was none)
          at-groups (o ∷ os) some = rw some (goes-here taken g was)
      by (Next (Set c e) rest) was = absurd (never (ap leading (sym was) ∙ stops))
      by (Next (Fold op c e) rest) was = absurd (never (ap leading (sym was) ∙ stops))
      by (Next (If e a b) rest) was = rw was (subst (λ k. Goes lens ws (control_executed k g i ws) t (bump 0 1 t)) (sym (told e (ap test_of was))) (goes-if g e a b rest was))
      by (Next (Task d b) rest) was = rw was (goes-task taken g d b rest was (ordered (d, b) (ap next_task was)))
      by (Next (Wait w) rest) was = rw was (goes-wait taken g w rest was)
      by (Next (Group op cs b) rest) was = rw was (goes-group taken g op cs b rest was)

-- ---- a settle, seen where pieces that are out count as not begun, and what it leaves of the pieces of others

-- ---- a body's end

updated-swap : (xs : List Region) (i j : ℕ) (f g : Region → Region) → ((r : Region) → g (f r) ≡ f (g r)) → updated (updated xs i f) j g ≡ updated (updated xs j g) i f
updated-swap (x ∷ xs) zero zero f g same = ap (λ y. y ∷ xs) (same x)
updated-swap (x ∷ xs) (suc i) (suc j) f g same = ap (λ ys. x ∷ ys) (updated-swap xs i j f g same)
updated-swap xs i j f g same = refl

tell-wholes : (some : Bool) (p c : ℕ) (rs : List Region) → wholes (tell some p c rs) ≡ tell some p c (wholes rs)
tell-wholes false p c rs = refl
tell-wholes true p c rs = changed rs p (without c) (without c) refl

tell-swap : (some : Bool) (p c i : ℕ) (rest : Body) (ws : List Region) → updated (tell some p c ws) i (with_rest rest) ≡ tell some p c (updated ws i (with_rest rest))
tell-swap false p c i rest ws = refl
tell-swap true p c i rest ws = updated-swap ws p i (without c) (with_rest rest) (λ r. refl)

wholes-closed : (i : ℕ) (rs : List Region) → i < length rs → (at rs i).rest ≡ End → wholes (updated (region_ended_at i rs) i region_stopped) ≡ region_ended_at i (updated (wholes rs) i (with_rest End))
wholes-closed i rs h was =
    let p = parent_of rs i in
    let c = (at rs i).child in
    let ws = updated (wholes rs) i (with_rest End) in
    let some = nat_lt 0 i in
    let here : at ws i ≡ with_rest End (whole_region (at rs i)) = at-updated (wholes rs) i (with_rest End) (omega (arith, h, length-map rs whole_region)) ∙ ap (with_rest End) (at-whole rs i) in
    ap wholes (updated-updated (tell some p c rs) i over region_stopped)
    ∙ changed (tell some p c rs) i (λ r. region_stopped (over r)) (λ w. over (with_rest End w)) (ended (at (tell some p c rs) i) (tell-field (λ r. r.rest) (λ c r. refl) some p c rs i ∙ was))
    ∙ ap (λ l. updated l i (λ w. over (with_rest End w))) (tell-wholes some p c rs)
    ∙ sym (updated-updated (tell some p c (wholes rs)) i (with_rest End) over)
    ∙ ap (λ l. updated l i over) (tell-swap some p c i End (wholes rs))
    ∙ ap (λ n. updated (tell some n c ws) i over) (sym (ap (λ (r : Region). r.parent) here))
    ∙ ap (λ n. updated (tell some (parent_of ws i) n ws) i over) (sym (ap (λ (r : Region). r.child) here))
  where
    ended : (r : Region) → r.rest ≡ End → whole_region (region_stopped (over r)) ≡ over (with_rest End (whole_region r))
    ended r e = ap (λ b. record r { rest = b; ended = true; running = None }) e

-- a settle is the piece, and then the step behind it
pub wholes-settled : (taken : Bool) (g i : ℕ) (rs : List Region) → i < length rs → wholes (regions_settled taken g i rs) ≡ moved_on taken g i (updated (wholes rs) i (with_rest (at rs i).rest))
wholes-settled taken g i rs h = by (end-cases (at rs i).rest (at rs i).groups)
  where
    ws : List Region
    ws = updated (wholes rs) i (with_rest (at rs i).rest)

    here : at ws i ≡ with_rest (at rs i).rest (whole_region (at rs i))
    here = at-updated (wholes rs) i (with_rest (at rs i).rest) (omega (arith, h, length-map rs whole_region)) ∙ ap (with_rest (at rs i).rest) (at-whole rs i)

    ends : is_at_end (at ws i).rest (at ws i).groups ≡ is_at_end (at rs i).rest (at rs i).groups
    ends = ap (λ (r : Region). is_at_end r.rest r.groups) here

    by : ((at rs i).rest ≡ End) × ((at rs i).groups ≡ []) × (is_at_end (at rs i).rest (at rs i).groups ≡ true) ⊎ (is_at_end (at rs i).rest (at rs i).groups ≡ false) → wholes (regions_settled taken g i rs) ≡ moved_on taken g i ws
    by (inl (was, none, over)) =
        ap (λ b. wholes (updated (if b then region_ended_at i rs else control_executed taken g i rs) i region_stopped)) over
        ∙ wholes-closed i rs h was ∙ ap (λ b. region_ended_at i (updated (wholes rs) i (with_rest b))) (sym was)
        ∙ sym (ap (λ b. if b then region_ended_at i ws else control_executed taken g i ws) (ends ∙ over))
    by (inr goes) =
        ap (λ b. wholes (updated (if b then region_ended_at i rs else control_executed taken g i rs) i region_stopped)) goes
        ∙ wholes-executed taken g i rs h ∙ sym (ap (λ b. if b then region_ended_at i ws else control_executed taken g i ws) (ends ∙ goes))

-- ---- the pieces of others

-- nothing of the region but its children's table is another
abbrev pub Alike : Region → Region → Type 0
Alike r before = (kids : List Sibling) × (r ≡ record before { children = kids })

without-alike : (c p : ℕ) (rs : List Region) (k : ℕ) → Alike (at (updated rs p (without c)) k) (at rs k)
without-alike c p [] k = ((at [] k).children, refl)
without-alike c zero (r ∷ rs) zero = (with_finished r.children c, refl)
without-alike c zero (r ∷ rs) (suc k) = ((at rs k).children, refl)
without-alike c (suc p) (r ∷ rs) zero = (r.children, refl)
without-alike c (suc p) (r ∷ rs) (suc k) = without-alike c p rs k

pub others-moved : (taken : Bool) (g i : ℕ) (rs : List Region) (k : ℕ) → k ≢ i → Alike (at (moved_on taken g i rs) k) (at rs k) ⊎ ((at (moved_on taken g i rs) k).running ≡ None)
others-moved taken g i rs k other = moved-by taken g i rs (λ l. Alike (at l k) (at rs k) ⊎ ((at l k).running ≡ None))
    (λ was. let (kids, is) = told-by i rs (λ l. Alike (at l k) (at rs k)) (λ z. ((at rs k).children, refl)) (λ pos. without-alike (at rs i).child (parent_of rs i) rs k) in
    inl (kids, at-updated-other (told_parent i rs) i k over other ∙ is))
    (inl ((at rs k).children, at-updated-other rs i k (region_stepped taken g) other))
    (λ l child h. let two = updated l i (with_child child.0) in let new = new_region i (children_at l i) child.0 child.1 in elim (cases_lt k (length two)) [
      | inl below ↦ subst (λ r. Alike r (at rs k) ⊎ (r.running ≡ None)) (sym (at-more two new k below ∙ at-updated-other l i k (with_child child.0) other)) h
      | inr past ↦ inr (field-more (λ r. r.running) two new refl k ∙ ap (λ (r : Region). r.running) (at-past two k past))
    ])

-- where a piece comes back, each that is out still is another's
pub stopped-others : (rs : List Region) (i k : ℕ) (run : Run) → (at (updated rs i region_stopped) k).running ≡ Some run → (k ≢ i) × (at (updated rs i region_stopped) k ≡ at rs k)
stopped-others [] i k run is = absurd (none-some run is)
stopped-others (r ∷ rs) zero zero run is = absurd (none-some run is)
stopped-others (r ∷ rs) zero (suc k) run is = ((λ e. absurd (omega (arith, e))), refl)
stopped-others (r ∷ rs) (suc i) zero run is = ((λ e. absurd (omega (arith, e))), refl)
stopped-others (r ∷ rs) (suc i) (suc k) run is = let (other, same) = stopped-others rs i k run is in ((λ e. absurd (other (omega (arith, e)))), same)

-- each piece that is out after a settle was out before, and is another's
pub still-out : (taken : Bool) (g i : ℕ) (rs : List Region) (k : ℕ) (run : Run) → (at (regions_settled taken g i rs) k).running ≡ Some run → (k ≢ i) × Alike (at (regions_settled taken g i rs) k) (at rs k)
still-out taken g i rs k run is = let (other, same) = stopped-others (moved_on taken g i rs) i k run is in (other, pick same (others-moved taken g i rs k other))
  where
    now : List Region
    now = moved_on taken g i rs

    pick : at (updated now i region_stopped) k ≡ at now k → Alike (at now k) (at rs k) ⊎ ((at now k).running ≡ None) → Alike (at (updated now i region_stopped) k) (at rs k)
    pick same (inl (kids, e)) = (kids, same ∙ e)
    pick same (inr e) = absurd (none-some run (sym (ap (λ (r : Region). r.running) same ∙ e) ∙ is))

-- ---- the leases that are out

loans-same : (rs : List Region) (i : ℕ) (f : Region → Region) → ((r : Region) → (f r).running ≡ r.running) → loans_out (updated rs i f) ≡ loans_out rs
loans-same [] i f keeps = refl
loans-same (r ∷ rs) zero f keeps = ap (λ o. with_loan o (loans_out rs)) (keeps r)
loans-same (r ∷ rs) (suc i) f keeps = ap (with_loan r.running) (loans-same rs i f keeps)

loans-more : (rs : List Region) (new : Region) → new.running ≡ None → loans_out (rs ++ new ∷ []) ≡ loans_out rs
loans-more [] new none = ap (λ o. with_loan o []) none
loans-more (r ∷ rs) new none = ap (with_loan r.running) (loans-more rs new none)

loans-moved : (taken : Bool) (g i : ℕ) (rs : List Region) → loans_out (moved_on taken g i rs) ≡ loans_out rs
loans-moved taken g i rs = moved-by taken g i rs (λ l. loans_out l ≡ loans_out rs)
    (λ was. loans-same (told_parent i rs) i over (λ r. refl) ∙ told-by i rs (λ l. loans_out l ≡ loans_out rs) (λ z. refl) (λ pos. loans-same rs (parent_of rs i) (without (at rs i).child) (λ r. refl)))
    (loans-same rs i (region_stepped taken g) (stepped-running taken g))
    (λ l child h. loans-more (updated l i (with_child child.0)) (new_region i (children_at l i) child.0 child.1) refl ∙ loans-same l i (with_child child.0) (λ r. refl) ∙ h)

pub one-less : (rs : List Region) (i : ℕ) (run : Run) → (at rs i).running ≡ Some run → IsPermutation (loans_out rs) (loan_in run ∷ loans_out (updated rs i region_stopped))
one-less [] i run is = cc
one-less (r ∷ rs) zero run is = subst (λ o. IsPermutation (with_loan o (loans_out rs)) (loan_in run ∷ loans_out rs)) (sym is) (IsPermutation-refl (loan_in run ∷ loans_out rs))
one-less (r ∷ rs) (suc i) run is = by (one-less rs i run is) r.running
  where
    by : IsPermutation (loans_out rs) (loan_in run ∷ loans_out (updated rs i region_stopped)) → (o : Option Run) → IsPermutation (with_loan o (loans_out rs)) (loan_in run ∷ with_loan o (loans_out (updated rs i region_stopped)))
    by rest None = rest
    by rest (Some x) =
        IsPermutation-trans (loan_in x ∷ loans_out rs) (loan_in x ∷ loan_in run ∷ loans_out (updated rs i region_stopped)) (loan_in run ∷ loan_in x ∷ loans_out (updated rs i region_stopped))
        (IsPermutation-cons (loan_in x) (loans_out rs) (loan_in run ∷ loans_out (updated rs i region_stopped)) rest)
        (IsPermutation-swap (loan_in x ∷ loan_in run ∷ loans_out (updated rs i region_stopped)) (loan_in run ∷ loan_in x ∷ loans_out (updated rs i region_stopped)) 0 1 (omega arith) (omega arith) refl)

-- the task's own lease is out no more
pub loans-settled : (taken : Bool) (g i : ℕ) (rs : List Region) (run : Run) → i < length rs → (at rs i).running ≡ Some run → IsPermutation (loans_out rs) (loan_in run ∷ loans_out (regions_settled taken g i rs))
loans-settled taken g i rs run h is =
    subst (λ l. IsPermutation l (loan_in run ∷ loans_out (regions_settled taken g i rs))) (loans-moved taken g i rs) (one-less (moved_on taken g i rs) i run (moved-running taken g i rs i ∙ is))

-- ---- how many tasks there are

pub length-settled : (taken : Bool) (g i : ℕ) (rs : List Region) → length (regions_settled taken g i rs) ≡ length rs + tasks_next (at rs i).rest
length-settled taken g i rs = length-updated (moved_on taken g i rs) i region_stopped ∙ moved-long taken g i rs
