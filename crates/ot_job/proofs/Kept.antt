-- What is left of a job stays the same at each step, whatever the order of the steps.
use Rattle.std.proofs.Common.{◌≡◌, ◌≢◌, ℕ, suc, ◌+◌, ◌<◌, List, [], ◌∷◌, ◌++◌, length, Bool, true, false, cond, refl, sym, ◌∙◌, ap, subst, inl, inr, ⊎_elim, ◌⊎◌, arith, true≢false, ◌==◌}
use Rattle.ot_job.proofs.Common.{cases_eq, cases_Bool, nat_tests, E, S, Set, Fold, If, Task, Wait, Group, Body, End, Next, append, val, cell_of, State, bump, either, serial, Reads, Use, serial-append, use_as, EachTouch, Agree, touch-weaker, left_of_job}
use Rattle.ot_model.proofs.SerialLemmas.{serial-bump, either-ap}
use Rattle.ot_check.specs.Offences.{EachTouchOne, AreApart}
use Rattle.ot_check.proofs.Cited.{read-behind, apart}
use Rattle.ot_job_task.proofs.AssignLemmas.{read-all}
use Rattle.ot_job.proofs.Order.{order, order_from, insert_before, run_all, left-order, Anc, self, up, IsBefore, Each, Each-weaker, Ordered, Descends, AreParents, order-ordered, branch, anc-le}

abbrev pub Uses : Type 1
Uses = Use → Type 0

-- a job: each task's parent, what it may do, what it has left, whether it has ended, and that it has begun
pub record Sound (par : ℕ → ℕ) (may : ℕ → Uses) (todo : ℕ → Body) (ended : ℕ → Bool) (begun : ℕ → Type 0) : Type 0 where
  pub down : Descends par
  pub inside : (i : ℕ) → EachTouch (may i) (todo i)
  pub within : (i : ℕ) → 0 < i → (u : Use) → may i u → may (par i) u
  pub alive : (i : ℕ) → 0 < par i → ended (par i) ≡ true → ended i ≡ true
  pub over : (i : ℕ) → ended i ≡ true → todo i ≡ End
  pub ready : (a b : ℕ) → par b ≡ par a → 0 < b → b < a → begun a → ended a ≡ false → ended b ≡ false → (u v : Use) → may a u → may b v → Agree u v
  pub begun_up : (i : ℕ) → 0 < i → begun (par i)

-- the task has begun, and this piece of it meets no child that hasn't ended
pub record MayRun (par : ℕ → ℕ) (may : ℕ → Uses) (ended : ℕ → Bool) (begun : ℕ → Type 0) (i : ℕ) (piece : Body) : Type 0 where
  pub started : begun i
  pub alive : ended i ≡ false
  pub own : EachTouch (may i) piece
  pub free : (c : ℕ) → par c ≡ i → 0 < c → ended c ≡ false → EachTouch (λ u. (v : Use) → may c v → Agree u v) piece

mutual
  one-all : (P : Use → Type 0) → ((u : Use) → P u) → (x : S) → EachTouchOne P x
  one-all P h (Set c e) = (read-all _ (λ d. h (use_as Reads d)) e, h _)
  one-all P h (Fold op c e) = (read-all _ (λ d. h (use_as Reads d)) e, h _)
  one-all P h (If e a b) = (read-all _ (λ d. h (use_as Reads d)) e, touch-all P h a, touch-all P h b)
  one-all P h (Task d b) = touch-all P h b
  one-all P h (Wait w) = tt
  one-all P h (Group op cs b) = touch-all P h b

  pub touch-all : (P : Use → Type 0) → ((u : Use) → P u) → (b : Body) → EachTouch P b
  touch-all P h End = tt
  touch-all P h (Next x rest) = (one-all P h x, touch-all P h rest)

abbrev pub In : ℕ → List ℕ → Type 0
In i [] = ⊥
In i (x ∷ xs) = (i ≡ x) ⊎ In i xs

pub Each-at : (P : ℕ → Type 0) (i : ℕ) (xs : List ℕ) → Each P xs → In i xs → P i
Each-at P i [] h k = absurd k
Each-at P i (x ∷ xs) h (inl e) = subst P (sym e) h.0
Each-at P i (x ∷ xs) h (inr k) = Each-at P i xs h.1 k

-- bodies whose touches never conflict are apart
apart_by : (P Q : Uses) (a b : Body) → EachTouch P a → EachTouch Q b → ((u v : Use) → P u → Q v → Agree u v) → AreApart a b
apart_by P Q a b p q w = touch-weaker P (λ u. EachTouch (Agree u) b) a (λ u h. touch-weaker Q (Agree u) b (λ v g. w u v h g) q) p

module _ (par : ℕ → ℕ) (may : ℕ → Uses) (todo : ℕ → Body) (ended : ℕ → Bool) (begun : ℕ → Type 0) (s : Sound par may todo ended begun) where
  -- what a task may do each ancestor may
  pub up_to : (a i : ℕ) → Anc par a i → (u : Use) → may i u → may a u
  up_to a i self u h = h
  up_to a i (up i' pos g) u h = up_to a (par i) g u (s.within i pos u h)

  -- an ancestor of a task that hasn't ended hasn't, but that the root may end before its children
  pub alive_up : (a i : ℕ) → 0 < a → Anc par a i → ended i ≡ false → ended a ≡ false
  alive_up a i below self h = h
  alive_up a i below (up i' pos g) h =
      let le = anc-le par s.down a (par i) g in
      alive_up a (par i) below g (⊎_elim (λ e. absurd (true≢false (sym (s.alive i (omega arith) e) ∙ h))) (λ e. e) (cases_Bool (ended (par i))))

  -- an ancestor of a task that has begun has
  pub begun_anc : (a i : ℕ) → Anc par a i → begun i → begun a
  begun_anc a i self h = h
  begun_anc a i (up i' pos g) h = begun_anc a (par i) g (s.begun_up i pos)

  -- a piece that may run is apart from all that is left before it
  pub clear : (i : ℕ) (piece : Body) → MayRun par may ended begun i piece → (j : ℕ) → IsBefore par j i → AreApart piece (todo j)
  clear i piece run j h =
      ⊎_elim (λ e. subst (AreApart piece) (sym (s.over j e)) (touch-all _ (λ u. tt) piece)) (λ e. alive_apart h e) (cases_Bool (ended j))
    where
      alive_apart : IsBefore par j i → ended j ≡ false → AreApart piece (todo j)
      alive_apart (inl h) alive =
          let g = branch par i (par j) h.1 j refl h.0 in
          apart_by (λ u. (v : Use) → may g.0 v → Agree u v) (may j) piece (todo j) (run.free g.0 g.1 g.3 (alive_up g.0 j g.3 g.2 alive)) (s.inside j) (λ u v p q. p v (up_to g.0 j g.2 v q))
      alive_apart (inr h) alive =
          let a = h.0 in let b = h.1 in let w = h.2 in
          apart_by (may i) (may j) piece (todo j) run.own (s.inside j) (λ u v p q. s.ready a b w.siblings w.child w.older (begun_anc a i w.of_i run.started) (alive_up a i (omega (arith, w.child, w.older)) w.of_i run.alive) (alive_up b j w.child w.of_j alive) u v (up_to a i w.of_i u p) (up_to b j w.of_j v q))

-- one task makes a step: its effect passes all that is left before it, and then it and what the task has left are what the task had left
module _ (par : ℕ → ℕ) (todo todo' : ℕ → Body) (i : ℕ) (effect : State → State) (Knows : State → Type 0)
    (passes : (j : ℕ) (t : State) → IsBefore par j i → serial (todo j) (effect t) ≡ effect (serial (todo j) t))
    (knows : (j : ℕ) (t : State) → IsBefore par j i → Knows t → Knows (serial (todo j) t))
    (mine : (t : State) → Knows t → serial (todo' i) (effect t) ≡ serial (todo i) t)
    (others : (j : ℕ) → j ≢ i → todo' j ≡ todo j)
  where
    behind : (js : List ℕ) (t : State) → Each (λ y. i ≢ y) js → run_all todo' js t ≡ run_all todo js t
    behind [] t h = refl
    behind (j ∷ js) t h = ap (λ b. run_all todo' js (serial b t)) (others j (λ e. h.0 (sym e))) ∙ behind js _ h.1

    ahead : (js : List ℕ) (t : State) → Knows t → Ordered (λ x y. (x ≢ y) × IsBefore par x y) js → In i js → run_all todo' js (effect t) ≡ run_all todo js t
    ahead [] t k h here = absurd here
    ahead (j ∷ js) t k h (inl e) =
        ap (run_all todo' js) (subst (λ n. serial (todo' n) (effect t) ≡ serial (todo n) t) e (mine t k)) ∙ behind js _ (Each-weaker _ _ (λ y g z. g.0 (sym e ∙ z)) js h.0)
    ahead (j ∷ js) t k h (inr here) =
        let before = Each-at _ i js h.0 here in
        ap (λ b. run_all todo' js (serial b (effect t))) (others j before.0) ∙ ap (run_all todo' js) (passes j t before.1) ∙ ahead js (serial (todo j) t) (knows j t before.1 k) h.1 here

    pub left-step : (parents : List ℕ) (t : State) → Knows t → Descends par → AreParents par 1 parents → In i (order parents) → left_of_job todo' parents (effect t) ≡ left_of_job todo parents t
    left-step parents t k down ps here = left-order todo' parents (effect t) ∙ ahead (order parents) t k (order-ordered par down parents ps) here ∙ sym (left-order todo parents t)

-- ---- the steps

module _ (par : ℕ → ℕ) (may : ℕ → Uses) (todo todo' : ℕ → Body) (ended : ℕ → Bool) (begun : ℕ → Type 0) (s : Sound par may todo ended begun)
    (i : ℕ) (others : (j : ℕ) → j ≢ i → todo' j ≡ todo j) (parents : List ℕ) (ps : AreParents par 1 parents) (here : In i (order parents)) where
  -- a piece of sets and folds, in front of all that stands before it
  pub left-piece : (piece rest : Body) (t : State) → todo i ≡ append piece rest → todo' i ≡ rest → MayRun par may ended begun i piece
      → left_of_job todo' parents (serial piece t) ≡ left_of_job todo parents t
  left-piece piece rest t was is run =
      left-step par todo todo' i (serial piece) (λ t. Unit {0})
      (λ j t b. apart piece (todo j) t (clear par may todo ended begun s i piece run j b))
      (λ j t b k. tt)
      (λ t k. ap (λ b. serial b (serial piece t)) is ∙ sym (serial-append piece rest t) ∙ sym (ap (λ b. serial b t) was))
      others parents t tt s.down ps here

  -- a wait, or the entry into a group: it counts, and what it leaves is run as before
  pub left-counts : (t : State) → ((t : State) → serial (todo' i) (bump 0 1 t) ≡ serial (todo i) t) → left_of_job todo' parents (bump 0 1 t) ≡ left_of_job todo parents t
  left-counts t same =
      left-step par todo todo' i (bump 0 1) (λ t. Unit {0}) (λ j t b. serial-bump (todo j) 0 1 t) (λ j t b k. tt) (λ t k. same t) others parents t tt s.down ps here

  -- an `if`: its condition has the value here that it has in its place
  pub left-if : (e : E) (a b rest : Body) (t : State) → todo i ≡ Next (If e a b) rest → todo' i ≡ append (either (val (cell_of t.cells) e) a b) rest
      → MayRun par may ended begun i (Next (If e End End) End) → left_of_job todo' parents (bump 0 1 t) ≡ left_of_job todo parents t
  left-if e a b rest t was is run =
      left-step par todo todo' i (bump 0 1) (λ u. val (cell_of t.cells) e ≡ val (cell_of u.cells) e) (λ j u h. serial-bump (todo j) 0 1 u)
      (λ j u h k. k ∙ read-behind u (todo j) e (clear par may todo ended begun s i (Next (If e End End) End) run j h).0.0)
      (λ u k.
      ap (λ c. serial c (bump 0 1 u)) is ∙ serial-append (either (val (cell_of t.cells) e) a b) rest (bump 0 1 u)
      ∙ ap (serial rest) (chosen (val (cell_of t.cells) e) (bump 0 1 u) ∙ ap (λ n. either n (serial a (bump 0 1 u)) (serial b (bump 0 1 u))) k)
      ∙ sym (ap (λ c. serial c u) was))
      others parents t refl s.down ps here
    where
      chosen : (n : ℕ) (u : State) → serial (either n a b) u ≡ either n (serial a u) (serial b u)
      chosen n u = sym (either-ap n a b (λ c. serial c u))

-- ---- a task is created

order_from-more : (k i : ℕ) (os qs : List ℕ) → order_from k os (qs ++ i ∷ []) ≡ insert_before i (k + length qs) (order_from k os qs)
order_from-more k i os [] = let z : k + 0 ≡ k = omega arith in rw z refl
order_from-more k i os (q ∷ qs) =
    let z : k + suc (length qs) ≡ k + 1 + length qs = omega arith in
    order_from-more (k + 1) i (insert_before q k os) qs ∙ ap (λ m. insert_before i m (order_from (k + 1) (insert_before q k os) qs)) (sym z)

pub order-more : (i : ℕ) (parents : List ℕ) → order (parents ++ i ∷ []) ≡ insert_before i (1 + length parents) (order parents)
order-more i parents = order_from-more 1 i (0 ∷ []) parents

module _ (par : ℕ → ℕ) (todo todo' : ℕ → Body) (i n : ℕ) (d : List Use) (b rest : Body)
    (was : todo i ≡ Next (Task d b) rest) (is : todo' i ≡ rest) (new : todo' n ≡ b) (others : (j : ℕ) → j ≢ i → j < n → todo' j ≡ todo j)
  where
    behind_new : (js : List ℕ) (t : State) → Each (λ y. (i ≢ y) × (y < n)) js → run_all todo' (insert_before i n js) t ≡ run_all todo js t
    behind_new [] t h = refl
    behind_new (j ∷ js) t h =
        let apart = h.0.0 in
        let no : (i == j) ≡ false = grind (arith, nat_tests) in
        rw no (ap (λ c. run_all todo' (insert_before i n js) (serial c t)) (others j (λ e. h.0.0 (sym e)) h.0.1) ∙ behind_new js _ h.1)

    ahead_new : (js : List ℕ) (t : State) → Ordered (λ x y. (x ≢ y) × IsBefore par x y) js → Each (λ y. y < n) js → In i js
        → run_all todo' (insert_before i n js) (bump 1 1 t) ≡ run_all todo js t
    ahead_new [] t h small here = absurd here
    ahead_new (j ∷ js) t h small here = at_test (λ k. ahead_new js (serial (todo j) t) h.1 small.1 k) (cases_eq i j)
      where
        at_test : (In i js → run_all todo' (insert_before i n js) (bump 1 1 (serial (todo j) t)) ≡ run_all todo js (serial (todo j) t)) → (i ≡ j) ⊎ (i ≡ j → ⊥) → run_all todo' (cond (i == j) (n ∷ j ∷ insert_before i n js) (j ∷ insert_before i n js)) (bump 1 1 t) ≡ run_all todo (j ∷ js) t
        at_test ih (inl e) =
            let yes' : (i == j) ≡ true = grind (arith, nat_tests) in
            rw yes' (
            ap (λ c. run_all todo' (insert_before i n js) (serial (todo' j) (serial c (bump 1 1 t)))) new
            ∙ ap (λ c. run_all todo' (insert_before i n js) (serial c (serial b (bump 1 1 t)))) (ap todo' (sym e) ∙ is)
            ∙ ap (λ c. run_all todo' (insert_before i n js) (serial c t)) (sym was ∙ ap todo e)
            ∙ behind_new js (serial (todo j) t) (both js (Each-weaker _ _ (λ y g z. g.0 (sym e ∙ z)) js h.0) small.1))
          where
            both : (js : List ℕ) → Each (λ y. i ≢ y) js → Each (λ y. y < n) js → Each (λ y. (i ≢ y) × (y < n)) js
            both [] p q = tt
            both (x ∷ xs) p q = ((p.0, q.0), both xs p.1 q.1)
        at_test ih (inr e) =
            let no : (i == j) ≡ false = grind (arith, nat_tests) in
            rw no (
            ap (λ c. run_all todo' (insert_before i n js) (serial c (bump 1 1 t))) (others j (λ g. e (sym g)) small.0)
            ∙ ap (run_all todo' (insert_before i n js)) (serial-bump (todo j) 1 1 t)
            ∙ ih (later here))
          where
            later : (i ≡ j) ⊎ In i js → In i js
            later (inl g) = absurd (e g)
            later (inr g) = g

    -- a task: it counts, and its body stands right before what its parent has left
    pub left-task : (parents : List ℕ) (t : State) → n ≡ 1 + length parents → Descends par → AreParents par 1 parents → Each (λ y. y < n) (order parents) → In i (order parents)
        → left_of_job todo' (parents ++ i ∷ []) (bump 1 1 t) ≡ left_of_job todo parents t
    left-task parents t count down ps small here =
        left-order todo' (parents ++ i ∷ []) (bump 1 1 t)
        ∙ ap (λ os. run_all todo' os (bump 1 1 t)) (order-more i parents ∙ ap (λ m. insert_before i m (order parents)) (sym count))
        ∙ ahead_new (order parents) t (order-ordered par down parents ps) small here
        ∙ sym (left-order todo parents t)
