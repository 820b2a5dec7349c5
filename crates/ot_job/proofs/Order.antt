-- The tasks in their serial order.
use Rattle.std.proofs.Common.{if◌then◌else◌, ◌≡◌, ◌≢◌, ℕ, ◌+◌, ◌<◌, ◌≤◌, List, [], ◌∷◌, Bool, true, false, cond, eqb, ◌==◌, refl, sym, ◌∙◌, ap, subst, inl, inr, ◌⊎◌, arith}
use Rattle.ot_job.proofs.Common.{cases_eq, nat_tests, Body, State, serial, children_left, left_of_job}

-- k goes before q
abbrev pub insert_before : ℕ → ℕ → List ℕ → List ℕ
insert_before q k [] = []
insert_before q k (x ∷ xs) = cond (q == x) (k ∷ x ∷ insert_before q k xs) (x ∷ insert_before q k xs)

abbrev pub order_from : ℕ → List ℕ → List ℕ → List ℕ
order_from k os [] = os
order_from k os (q ∷ qs) = order_from (k + 1) (insert_before q k os) qs

abbrev pub order : List ℕ → List ℕ
order parents = order_from 1 (0 ∷ []) parents

abbrev pub run_all : (ℕ → Body) → List ℕ → State → State
run_all todo [] s = s
run_all todo (j ∷ js) s = run_all todo js (serial (todo j) s)

-- each with its children before it
abbrev whole : (ℕ → Body) → ℕ → List ℕ → List ℕ → State → State
whole todo k qs [] s = s
whole todo k qs (x ∷ xs) s = whole todo k qs xs (serial (todo x) (children_left todo x k qs s))

whole-none : (todo : ℕ → Body) (k : ℕ) (os : List ℕ) (s : State) → whole todo k [] os s ≡ run_all todo os s
whole-none todo k [] s = refl
whole-none todo k (x ∷ os) s = whole-none todo k os (serial (todo x) s)

insert_case : (todo : ℕ → Body) (k q x : ℕ) (qs os : List ℕ) → ((s : State) → whole todo (k + 1) qs (insert_before q k os) s ≡ whole todo k (q ∷ qs) os s) → (b : Bool) (s : State) → whole todo (k + 1) qs (cond b (k ∷ x ∷ insert_before q k os) (x ∷ insert_before q k os)) s ≡ whole todo k (q ∷ qs) os (serial (todo x) (children_left todo x (k + 1) qs (if b then (serial (todo k) (children_left todo k (k + 1) qs s)) else s)))
insert_case todo k q x qs os ih true s = ih _
insert_case todo k q x qs os ih false s = ih _

whole-insert : (todo : ℕ → Body) (k q : ℕ) (qs os : List ℕ) (s : State) → whole todo (k + 1) qs (insert_before q k os) s ≡ whole todo k (q ∷ qs) os s
whole-insert todo k q qs [] s = refl
whole-insert todo k q qs (x ∷ os) s = insert_case todo k q x qs os (λ t. whole-insert todo k q qs os t) (eqb q x) s

run-order_from : (todo : ℕ → Body) (k : ℕ) (qs os : List ℕ) (s : State) → run_all todo (order_from k os qs) s ≡ whole todo k qs os s
run-order_from todo k [] os s = sym (whole-none todo k os s)
run-order_from todo k (q ∷ qs) os s = run-order_from todo (k + 1) qs (insert_before q k os) s ∙ whole-insert todo k q qs os s

-- what is left of the job is what is left of each task, in the serial order
pub left-order : (todo : ℕ → Body) (parents : List ℕ) (s : State) → left_of_job todo parents s ≡ run_all todo (order parents) s
left-order todo parents s = sym (run-order_from todo 1 parents (0 ∷ []) s)

-- ancestors, the task itself among them
pub data Anc (par : ℕ → ℕ) (a : ℕ) : ℕ → Type 0 where
  self : Anc par a a
  up : (i : ℕ) → 0 < i → Anc par a (par i) → Anc par a i

-- j is below i, or ancestors of theirs are siblings, j's the older
pub record Apart (par : ℕ → ℕ) (j i a b : ℕ) : Type 0 where
  pub of_i : Anc par a i
  pub of_j : Anc par b j
  pub siblings : par b ≡ par a
  pub child : 0 < b
  pub older : b < a

abbrev pub IsBefore : (ℕ → ℕ) → ℕ → ℕ → Type 0
IsBefore par j i = ((0 < j) × Anc par i (par j)) ⊎ ((a : ℕ) × (b : ℕ) × Apart par j i a b)

abbrev pub Each : (ℕ → Type 0) → List ℕ → Type 0
Each P [] = Unit {0}
Each P (x ∷ xs) = P x × Each P xs

abbrev pub Ordered : (ℕ → ℕ → Type 0) → List ℕ → Type 0
Ordered R [] = Unit {0}
Ordered R (x ∷ xs) = Each (R x) xs × Ordered R xs

-- these are the parents of k, k + 1, ..
abbrev pub AreParents : (ℕ → ℕ) → ℕ → List ℕ → Type 0
AreParents par k [] = Unit {0}
AreParents par k (q ∷ qs) = (par k ≡ q) × (q < k) × AreParents par (k + 1) qs

Each-insert : (P : ℕ → Type 0) (q k : ℕ) (xs : List ℕ) → Each P xs → (P q → P k) → Each P (insert_before q k xs)
Each-insert P q k [] h f = tt
Each-insert P q k (x ∷ xs) h f = at_test (cases_eq q x) (Each-insert P q k xs h.1 f)
  where
    at_test : (q ≡ x) ⊎ (q ≡ x → ⊥) → Each P (insert_before q k xs) → Each P (cond (q == x) (k ∷ x ∷ insert_before q k xs) (x ∷ insert_before q k xs))
    at_test (inl e) ih = let t : (q == x) ≡ true = grind (arith, nat_tests) in rw t (f (subst P (sym e) h.0), (h.0, ih))
    at_test (inr e) ih = let t : (q == x) ≡ false = grind (arith, nat_tests) in rw t (h.0, ih)

absent-insert : (q k : ℕ) (xs : List ℕ) → Each (λ x. q ≢ x) xs → insert_before q k xs ≡ xs
absent-insert q k [] h = refl
absent-insert q k (x ∷ xs) h =
    let n = h.0 in let t : (q == x) ≡ false = grind (arith, nat_tests) in rw t (ap (λ r. x ∷ r) (absent-insert q k xs h.1))

pub Each-weaker : (P Q : ℕ → Type 0) → ((x : ℕ) → P x → Q x) → (xs : List ℕ) → Each P xs → Each Q xs
Each-weaker P Q w [] h = tt
Each-weaker P Q w (x ∷ xs) h = (w x h.0, Each-weaker P Q w xs h.1)

-- the order of two different tasks, both below k
abbrev Good : (ℕ → ℕ) → ℕ → ℕ → ℕ → Type 0
Good par k x y = (x ≢ y) × IsBefore par x y × (x < k) × (y < k)

-- each but the root comes after its parent
abbrev pub Descends : (ℕ → ℕ) → Type 0
Descends par = (i : ℕ) → 0 < i → par i < i

pub anc-le : (par : ℕ → ℕ) → Descends par → (a i : ℕ) → Anc par a i → a ≤ i
anc-le par down a i self = omega arith
anc-le par down a i (up i' pos h) = let g = anc-le par down a (par i) h in let d = down i pos in omega arith

-- below q, the child of q that leads there
pub branch : (par : ℕ → ℕ) (q i : ℕ) → Anc par q i → (x : ℕ) → par x ≡ i → 0 < x → (c : ℕ) × (par c ≡ q) × Anc par c x × (0 < c)
branch par q i self x e pos = (x, e, self, pos)
branch par q i (up i' ipos h) x e pos =
    let g = branch par q (par i) h i refl ipos in
    (g.0, g.1, up x pos (subst (Anc par g.0) (sym e) g.2), g.3)

before_new : (par : ℕ → ℕ) → Descends par → (x q k : ℕ) → par k ≡ q → x < k → IsBefore par x q → IsBefore par x k
before_new par down x q k e lt (inl h) =
    let g = branch par q (par x) h.1 x refl h.0 in
    let le = anc-le par down g.0 x g.2 in
    inr (k, g.0, record { of_i = self; of_j = g.2; siblings = g.1 ∙ sym e; child = g.3; older = omega arith })
before_new par down x q k e lt (inr h) = inr (h.0, h.1, record { of_i = up k (omega arith) (subst (Anc par h.0) (sym e) h.2.of_i); of_j = h.2.of_j; siblings = h.2.siblings; child = h.2.child; older = h.2.older })

new_before : (par : ℕ → ℕ) (q k y : ℕ) → par k ≡ q → 0 < k → IsBefore par q y → IsBefore par k y
new_before par q k y e pos (inl h) = inl (pos, rw e (up q h.0 h.1))
new_before par q k y e pos (inr h) = inr (h.0, h.1, record { of_i = h.2.of_i; of_j = up k pos (subst (Anc par h.1) (sym e) h.2.of_j); siblings = h.2.siblings; child = h.2.child; older = h.2.older })

wider : (par : ℕ → ℕ) (k x y : ℕ) → Good par k x y → Good par (k + 1) x y
wider par k x y g = (g.0, g.1, omega arith, omega arith)

-- the new one goes right before its parent, and the rest stays in order
ordered-insert : (par : ℕ → ℕ) → Descends par → (q k : ℕ) → par k ≡ q → q < k → (os : List ℕ) → Each (λ x. x < k) os → Ordered (Good par k) os → Ordered (Good par (k + 1)) (insert_before q k os)
ordered-insert par down q k e lt [] small h = tt
ordered-insert par down q k e lt (x ∷ xs) small h = at_test (cases_eq q x) (ordered-insert par down q k e lt xs small.1 h.1)
  where
    old : Each (Good par (k + 1) x) (insert_before q k xs)
    old = Each-insert _ q k xs (Each-weaker _ _ (λ y. wider par k x y) xs h.0) (λ g. (omega (arith, small.0), before_new par down x q k e small.0 g.1, omega (arith, small.0), omega arith))

    fresh : q ≡ x → Each (Good par (k + 1) k) xs
    fresh p = Each-weaker _ _ (λ y g. (omega (arith, g.3), new_before par q k y e (omega arith) (subst (λ z. IsBefore par z y) (sym p) g.1), omega arith, omega (arith, g.3))) xs h.0

    at_test : (q ≡ x) ⊎ (q ≡ x → ⊥) → Ordered (Good par (k + 1)) (insert_before q k xs) → Ordered (Good par (k + 1)) (cond (q == x) (k ∷ x ∷ insert_before q k xs) (x ∷ insert_before q k xs))
    at_test (inl p) ih =
        let t : (q == x) ≡ true = grind (arith, nat_tests) in
        let same = absent-insert q k xs (Each-weaker _ _ (λ y g r. g.0 (sym p ∙ r)) xs h.0) in
        rw t (((omega (arith, small.0), inl (omega arith, rw e (subst (Anc par x) (sym p) self)), omega arith, omega (arith, small.0)), rw same (fresh p)), (old, ih))
    at_test (inr p) ih = let t : (q == x) ≡ false = grind (arith, nat_tests) in rw t (old, ih)

pub small-insert : (q k : ℕ) (os : List ℕ) → Each (λ x. x < k) os → Each (λ x. x < k + 1) (insert_before q k os)
small-insert q k os h = Each-insert _ q k os (Each-weaker _ _ (λ x l. omega arith) os h) (λ l. omega arith)

order_from-ordered : (par : ℕ → ℕ) → Descends par → (k : ℕ) (qs os : List ℕ) → AreParents par k qs → Each (λ x. x < k) os → Ordered (Good par k) os → Ordered (λ x y. (x ≢ y) × IsBefore par x y) (order_from k os qs)
order_from-ordered par down k [] os p small h = weaker os h
  where
    weaker : (os : List ℕ) → Ordered (Good par k) os → Ordered (λ x y. (x ≢ y) × IsBefore par x y) os
    weaker [] h = tt
    weaker (x ∷ os) h = (Each-weaker _ _ (λ y g. (g.0, g.1)) os h.0, weaker os h.1)
order_from-ordered par down k (q ∷ qs) os p small h =
    order_from-ordered par down (k + 1) qs (insert_before q k os) p.2 (small-insert q k os small) (ordered-insert par down q k p.0 p.1 os small h)

pub order-ordered : (par : ℕ → ℕ) → Descends par → (parents : List ℕ) → AreParents par 1 parents → Ordered (λ x y. (x ≢ y) × IsBefore par x y) (order parents)
order-ordered par down parents p = order_from-ordered par down 1 parents (0 ∷ []) p (omega arith, tt) (tt, tt)
