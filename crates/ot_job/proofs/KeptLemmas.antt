-- What is left of a job stays the same when a task makes a step, out of order.
use Rattle.std.proofs.Common.{◌≡◌, ◌≢◌, ℕ, zero, suc, ◌+◌, ◌<◌, true, false, List, [], ◌∷◌, ◌++◌, map, length, refl, sym, ap, subst, ◌∙◌, ◌⊎◌, inl, inr, arith, Option, Some, if◌then◌else◌, ◌==◌, Bool, ⊎_elim}
use Rattle.ot_job.proofs.Common.{cases_eq, nat_tests, map-append, E, S, If, Task, Wait, Group, Body, End, Next, append, val, cell_of, updated, length-updated, updated-updated, State, bump, either, serial, Use, Cell, Operation, serial-append, left_of_job, Open, todo, Region, with_rest, inside, with_child, new_region, at, parent_of, todo_at, ended_at, parents, left_of, may_at, IsRootOrReady, IsSoundRegions, length-map}
use Rattle.ot_model.proofs.CellsLemmas.{map-updated}
use Rattle.ot_model.proofs.TreeLemmas as tree
use Rattle.ot_job.proofs.Order.{order, order_from, insert_before, Each, AreParents, Descends, Each-weaker, small-insert}
use Rattle.ot_job.proofs.Kept.{In, MayRun, left-piece, left-counts, left-if, left-task}
use Rattle.ot_job.proofs.SoundLemmas.{sound}

pub at-updated : (rs : List Region) (i : ℕ) (f : Region → Region) → i < length rs → at (updated rs i f) i ≡ f (at rs i)
at-updated [] i f h = absurd (omega (arith, h))
at-updated (r ∷ rs) zero f h = refl
at-updated (r ∷ rs) (suc i) f h = at-updated rs i f (omega (arith, h))

pub at-updated-other : (rs : List Region) (i j : ℕ) (f : Region → Region) → j ≢ i → at (updated rs i f) j ≡ at rs j
at-updated-other (r ∷ rs) zero zero f h = absurd (h refl)
at-updated-other (r ∷ rs) (suc i) (suc j) f h = at-updated-other rs i j f (λ e. h (ap suc e))
at-updated-other rs i j f h = refl

pub parents-updated : (rs : List Region) (i : ℕ) (f : Region → Region) → ((r : Region) → (f r).parent ≡ r.parent) → parents (updated rs i f) ≡ parents rs
parents-updated (r ∷ rs) (suc i) f h = map-updated (λ r. r.parent) rs i f h
parents-updated rs i f h = refl

parents-more : (rs : List Region) (new : Region) → 0 < length rs → parents (rs ++ new ∷ []) ≡ parents rs ++ new.parent ∷ []
parents-more [] new h = absurd (omega (arith, h))
parents-more (r ∷ rs) new h = map-append (λ r. r.parent) rs (new ∷ [])

pub at-more : (rs : List Region) (new : Region) (j : ℕ) → j < length rs → at (rs ++ new ∷ []) j ≡ at rs j
at-more [] new j h = absurd (omega (arith, h))
at-more (r ∷ rs) new zero h = refl
at-more (r ∷ rs) new (suc j) h = at-more rs new j (omega (arith, h))

pub at-new : (rs : List Region) (new : Region) → at (rs ++ new ∷ []) (length rs) ≡ new
at-new [] new = refl
at-new (r ∷ rs) new = at-new rs new

-- ---- the parents are a family

family : (par : ℕ → ℕ) (k : ℕ) (rs : List Region) → ((j : ℕ) → j < length rs → par (k + j) ≡ (at rs j).parent) → ((j : ℕ) → j < length rs → par (k + j) < k + j)
    → AreParents par k (map (λ r. r.parent) rs)
family par k [] is less = tt
family par k (r ∷ rs) is less =
    let z : k + 0 ≡ k = omega arith in (
      ap par (sym z) ∙ is 0 (omega arith),
      omega (arith, less 0 (omega arith), is 0 (omega arith)),
      family par (k + 1) rs (λ j h. let e : k + 1 + j ≡ k + suc j = omega arith in ap par e ∙ is (suc j) (omega (arith, h)))
          (λ j h. let e : k + 1 + j ≡ k + suc j = omega arith in subst (λ n. par n < n) (sym e) (less (suc j) (omega (arith, h)))),
    )

are_parents : (rs : List Region) → Descends (parent_of rs) → AreParents (parent_of rs) 1 (parents rs)
are_parents [] down = tt
are_parents (r ∷ rs) down =
    family (parent_of (r ∷ rs)) 1 rs (λ j h. let e : 1 + j ≡ suc j = omega arith in ap (λ n. (at (r ∷ rs) n).parent) e)
    (λ j h. down (1 + j) (omega arith))

In-insert : (q k x : ℕ) (os : List ℕ) → In x os → In x (insert_before q k os)
In-insert q k x [] h = h
In-insert q k x (y ∷ os) h = by (q == y) (⊎_elim inl (λ g. inr (In-insert q k x os g)) h)
  where
    by : (b : Bool) → In x (y ∷ insert_before q k os) → In x (if b then k ∷ y ∷ insert_before q k os else y ∷ insert_before q k os)
    by true h = inr h
    by false h = h

In-new : (q k : ℕ) (os : List ℕ) → In q os → In k (insert_before q k os)
In-new q k [] h = h
In-new q k (y ∷ os) h = at_test (λ g. In-new q k os g) (cases_eq q y) h
  where
    at_test : (In q os → In k (insert_before q k os)) → (q ≡ y) ⊎ (q ≡ y → ⊥) → (q ≡ y) ⊎ In q os → In k (if q == y then k ∷ y ∷ insert_before q k os else y ∷ insert_before q k os)
    at_test ih (inl e) g = let t : (q == y) ≡ true = grind (arith, nat_tests) in rw t (inl refl)
    at_test ih (inr e) (inl g) = absurd (e g)
    at_test ih (inr e) (inr g) = let t : (q == y) ≡ false = grind (arith, nat_tests) in rw t (inr (ih g))

In-order : (par : ℕ → ℕ) (k : ℕ) (qs os : List ℕ) → AreParents par k qs → ((x : ℕ) → x < k → In x os) → (x : ℕ) → x < k + length qs → In x (order_from k os qs)
In-order par k [] os ps all x h = all x (omega (arith, h))
In-order par k (q ∷ qs) os ps all x h =
    In-order par (k + 1) qs (insert_before q k os) ps.2
    (λ y l. at_y y (cases_eq y k) l) x (omega (arith, h))
  where
    at_y : (y : ℕ) → (y ≡ k) ⊎ (y ≡ k → ⊥) → y < k + 1 → In y (insert_before q k os)
    at_y y (inl e) l = subst (λ z. In z (insert_before q k os)) (sym e) (In-new q k os (all q ps.1))
    at_y y (inr e) l = In-insert q k y os (all y (omega (arith, l, e)))

-- ---- what is left, statement by statement

pub todo-next : (x : S) (rest : Body) (gs : List Open) → todo (Next x rest) gs ≡ Next x (todo rest gs)
todo-next x rest [] = refl
todo-next x rest (o ∷ os) = refl

pub todo-append : (a rest : Body) (gs : List Open) → todo (append a rest) gs ≡ append a (todo rest gs)
todo-append a rest [] = refl
todo-append a rest (o ∷ os) = tree.append-append a rest (todo o.behind os)

todo-changed : (rs : List Region) (i : ℕ) (f : Region → Region) → i < length rs → todo_at (updated rs i f) i ≡ todo (f (at rs i)).rest (f (at rs i)).groups
todo-changed rs i f h = ap (λ (r : Region). todo r.rest r.groups) (at-updated rs i f h)

todo-others : (rs : List Region) (i : ℕ) (f : Region → Region) (j : ℕ) → j ≢ i → todo_at (updated rs i f) j ≡ todo_at rs j
todo-others rs i f j h = ap (λ (r : Region). todo r.rest r.groups) (at-updated-other rs i j f h)

module _ (rs : List Region) (s : IsSoundRegions rs) (i : ℕ) (h : i < length rs) where
  pub here : In i (order (parents rs))
  here = from rs h (are_parents rs s.down)
    where
      first : (x : ℕ) → x < 1 → In x (0 ∷ [])
      first zero l = inl refl
      first (suc x) l = absurd (omega (arith, l))

      from : (ts : List Region) → i < length ts → AreParents (parent_of rs) 1 (parents ts) → In i (order (parents ts))
      from [] h ps = absurd (omega (arith, h))
      from (r ∷ ts) h ps = In-order (parent_of rs) 1 (map (λ x. x.parent) ts) (0 ∷ []) ps first i (omega (arith, h, length-map ts (λ (x : Region). x.parent)))

  pub family_of : AreParents (parent_of rs) 1 (parents rs)
  family_of = are_parents rs s.down

  left-parents : (f : Region → Region) → ((r : Region) → (f r).parent ≡ r.parent) → (t : State) → left_of (updated rs i f) t ≡ left_of_job (todo_at (updated rs i f)) (parents rs) t
  left-parents f same t = ap (λ ps. left_of_job (todo_at (updated rs i f)) ps t) (parents-updated rs i f same)

  -- a piece of sets and folds
  pub kept-piece : (piece rest : Body) (t : State) → (at rs i).rest ≡ append piece rest → MayRun (parent_of rs) (may_at rs) (ended_at rs) (IsRootOrReady rs) i piece
      → left_of (updated rs i (with_rest rest)) (serial piece t) ≡ left_of rs t
  kept-piece piece rest t was run =
      left-parents (with_rest rest) (λ r. refl) (serial piece t)
      ∙ left-piece (parent_of rs) (may_at rs) (todo_at rs) (todo_at (updated rs i (with_rest rest))) (ended_at rs) (IsRootOrReady rs) (sound rs s) i
      (todo-others rs i (with_rest rest)) (parents rs) family_of here piece (todo rest (at rs i).groups) t
      (ap (λ b. todo b (at rs i).groups) was ∙ todo-append piece rest (at rs i).groups) (todo-changed rs i (with_rest rest) h) run

  -- a statement that only counts where it stands
  counted : (f : Region → Region) → ((r : Region) → (f r).parent ≡ r.parent) → (t : State)
      → ((t : State) → serial (todo (f (at rs i)).rest (f (at rs i)).groups) (bump 0 1 t) ≡ serial (todo_at rs i) t)
      → left_of (updated rs i f) (bump 0 1 t) ≡ left_of rs t
  counted f same t is =
      left-parents f same (bump 0 1 t)
      ∙ left-counts (parent_of rs) (may_at rs) (todo_at rs) (todo_at (updated rs i f)) (ended_at rs) (IsRootOrReady rs) (sound rs s) i (todo-others rs i f) (parents rs) family_of here t
      (λ u. ap (λ b. serial b (bump 0 1 u)) (todo-changed rs i f h) ∙ is u)

  -- a wait
  pub kept-wait : (w : Option (List Use)) (rest : Body) (t : State) → (at rs i).rest ≡ Next (Wait w) rest → left_of (updated rs i (λ r. record r { rest = rest; waiting = Some w })) (bump 0 1 t) ≡ left_of rs t
  kept-wait w rest t was =
      counted (λ r. record r { rest = rest; waiting = Some w }) (λ r. refl) t
      (λ u. sym (ap (λ b. serial b u) (ap (λ b. todo b (at rs i).groups) was ∙ todo-next (Wait w) rest (at rs i).groups)))

  -- the entry into a group
  pub kept-group : (g : ℕ) (op : Operation) (cs : List Cell) (b rest : Body) (t : State) → (at rs i).rest ≡ Next (Group op cs b) rest
      → left_of (updated rs i (λ r. inside g op cs b (with_rest rest r))) (bump 0 1 t) ≡ left_of rs t
  kept-group g op cs b rest t was =
      counted (λ r. inside g op cs b (with_rest rest r)) (λ r. refl) t
      (λ u. serial-append b (todo rest (at rs i).groups) (bump 0 1 u)
      ∙ sym (ap (λ c. serial c u) (ap (λ c. todo c (at rs i).groups) was ∙ todo-next (Group op cs b) rest (at rs i).groups)))

  -- an `if`, taken by the value that its condition has in the cells now
  pub kept-if : (e : E) (a b rest : Body) (t : State) → (at rs i).rest ≡ Next (If e a b) rest → MayRun (parent_of rs) (may_at rs) (ended_at rs) (IsRootOrReady rs) i (Next (If e End End) End)
      → left_of (updated rs i (with_rest (append (either (val (cell_of t.cells) e) a b) rest))) (bump 0 1 t) ≡ left_of rs t
  kept-if e a b rest t was run =
      let taken = either (val (cell_of t.cells) e) a b in
      left-parents (with_rest (append taken rest)) (λ r. refl) (bump 0 1 t)
      ∙ left-if (parent_of rs) (may_at rs) (todo_at rs) (todo_at (updated rs i (with_rest (append taken rest)))) (ended_at rs) (IsRootOrReady rs) (sound rs s) i
      (todo-others rs i (with_rest (append taken rest))) (parents rs) family_of here e a b (todo rest (at rs i).groups) t
      (ap (λ c. todo c (at rs i).groups) was ∙ todo-next (If e a b) rest (at rs i).groups)
      (todo-changed rs i (with_rest (append taken rest)) h ∙ todo-append taken rest (at rs i).groups) run

small-order : (k : ℕ) (qs os : List ℕ) → Each (λ x. x < k) os → Each (λ x. x < k + length qs) (order_from k os qs)
small-order k [] os h = Each-weaker _ _ (λ x l. omega (arith, l)) os h
small-order k (q ∷ qs) os h =
    Each-weaker _ _ (λ x l. omega (arith, l)) (order_from (k + 1) (insert_before q k os) qs) (small-order (k + 1) qs (insert_before q k os) (small-insert q k os h))

length-parents : (rs : List Region) → 0 < length rs → length rs ≡ 1 + length (parents rs)
length-parents [] h = absurd (omega (arith, h))
length-parents (r ∷ rs) h = omega (arith, length-map rs (λ (x : Region). x.parent))

module _ (rs : List Region) (s : IsSoundRegions rs) (i : ℕ) (h : i < length rs) where
  -- a task is created
  pub kept-task : (d : List Use) (b rest : Body) (child : ℕ) (t : State) → (at rs i).rest ≡ Next (Task d b) rest
      → left_of (updated (updated rs i (with_rest rest)) i (with_child d) ++ new_region i child d b ∷ []) (bump 1 1 t) ≡ left_of rs t
  kept-task d b rest child t was =
      let f : Region → Region = λ r. with_child d (with_rest rest r) in
      let new : Region = new_region i child d b in
      let one : List Region = updated (updated rs i (with_rest rest)) i (with_child d) in
      let two : List Region = updated rs i f in
      let same : one ≡ two = updated-updated rs i (with_rest rest) (with_child d) in
      let long : length two ≡ length rs = length-updated rs i f in
      let now : ℕ → Body = todo_at (two ++ new ∷ []) in
      let some : 0 < length rs = omega (arith, h) in
      ap (λ (l : List Region). left_of (l ++ new ∷ []) (bump 1 1 t)) same
      ∙ ap (λ ps. left_of_job now ps (bump 1 1 t)) (parents-more two new (omega (arith, long, some)) ∙ ap (λ ps. ps ++ i ∷ []) (parents-updated rs i f (λ r. refl)))
      ∙ left-task (parent_of rs) (todo_at rs) now i (length rs) d b (todo rest (at rs i).groups)
      (ap (λ c. todo c (at rs i).groups) was ∙ todo-next (Task d b) rest (at rs i).groups)
      (ap (λ (r : Region). todo r.rest r.groups) (at-more two new i (omega (arith, long, h)) ∙ at-updated rs i f h))
      (ap (λ n. todo_at (two ++ new ∷ []) n) (sym long) ∙ ap (λ (r : Region). todo r.rest r.groups) (at-new two new))
      (λ j other below. ap (λ (r : Region). todo r.rest r.groups) (at-more two new j (omega (arith, long, below)) ∙ at-updated-other rs i j f other))
      (parents rs) t (length-parents rs some) s.down (are_parents rs s.down)
      (Each-weaker _ _ (λ x l. omega (arith, l, length-parents rs some)) (order (parents rs)) (small-order 1 (parents rs) (0 ∷ []) (omega arith, tt))) (here rs s i h)
