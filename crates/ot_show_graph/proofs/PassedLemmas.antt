-- Lists of what has passed: who is unawaited behind one and another.
use Rattle.std.proofs.Common.{◌≡◌, ℕ, zero, suc, ◌≤◌, ◌&&◌, ◌||◌, Bool, true, false, not, cond, List, [], ◌∷◌, ◌++◌, refl, sym, ap, subst, ◌∙◌, arith, append_assoc, append-nil}
use Rattle.std.specs.Prelude.{◌==◌, Option}
use Rattle.std.specs.List.{filter, list_any}
use Rattle.std.proofs.Math.Bool.{and_comm}
use Rattle.std.proofs.lemmas.Bool.Decides.{nat_tests}
use Rattle.std.proofs.lemmas.List.Folds.{list_any-append}
use Rattle.ot_model.specs.declared.stmt.Use.{Use}
use Rattle.ot_show_graph.specs.Created.{Created, Passed, Creates, Awaits, Enters, Leaves}
use Rattle.ot_show_graph.specs.Passing.{takes_child, is_within, stays_in_groups, is_wait_taking, unawaited_of}

-- ---- tests and filters

pub or_parts : (a b : Bool) → (a || b) ≡ false → (a ≡ false) × (b ≡ false)
or_parts true b h = cc
or_parts false b h = (refl, h)

pub or_none : (a b : Bool) → a ≡ false → b ≡ false → (a || b) ≡ false
or_none true b p q = cc
or_none false b p q = q

pub filter_same : {A : Type 0} (p q : A → Bool) → ((x : A) → p x ≡ q x) → (xs : List A) → filter p xs ≡ filter q xs
filter_same p q same [] = refl
filter_same p q same (x ∷ xs) = ap (λ b. cond b (x ∷ filter p xs) (filter p xs)) (same x) ∙ ap (λ ys. cond (q x) (x ∷ ys) ys) (filter_same p q same xs)

pub filter_all : {A : Type 0} (p : A → Bool) → ((x : A) → p x ≡ true) → (xs : List A) → filter p xs ≡ xs
filter_all p all [] = refl
filter_all p all (x ∷ xs) = ap (λ b. cond b (x ∷ filter p xs) (filter p xs)) (all x) ∙ ap (λ ys. x ∷ ys) (filter_all p all xs)

-- one filter behind another
filter_cond : {A : Type 0} (q : A → Bool) (b : Bool) (x : A) (xs : List A) → filter q (cond b (x ∷ xs) xs) ≡ cond (b && q x) (x ∷ filter q xs) (filter q xs)
filter_cond q true x xs = refl
filter_cond q false x xs = refl

pub filter_both : {A : Type 0} (p q : A → Bool) (xs : List A) → filter q (filter p xs) ≡ filter (λ x. p x && q x) xs
filter_both p q [] = refl
filter_both p q (x ∷ xs) = filter_cond q (p x) x (filter p xs) ∙ ap (λ ys. cond (p x && q x) (x ∷ ys) ys) (filter_both p q xs)

pub filter_swap : {A : Type 0} (p q : A → Bool) (xs : List A) → filter q (filter p xs) ≡ filter p (filter q xs)
filter_swap p q xs = filter_both p q xs ∙ filter_same (λ x. p x && q x) (λ x. q x && p x) (λ x. and_comm (p x) (q x)) xs ∙ sym (filter_both q p xs)

implied : (a b : Bool) → (a ≡ true → b ≡ true) → (a && b) ≡ a
implied true b h = h refl
implied false b h = refl

pub filter_weaker : {A : Type 0} (p q : A → Bool) → ((x : A) → p x ≡ true → q x ≡ true) → (xs : List A) → filter q (filter p xs) ≡ filter p xs
filter_weaker p q weaker xs = filter_both p q xs ∙ filter_same (λ x. p x && q x) p (λ x. implied (p x) (q x) (weaker x)) xs

-- ---- numbers

pub within_more : (t u : ℕ) (c : Created) → t ≤ u → is_within t c ≡ true → is_within u c ≡ true
within_more t u c le here = grind (arith, nat_tests)

-- children within so many tasks are within more
pub within-more : (t u : ℕ) (cs : List Created) → t ≤ u → filter (is_within t) cs ≡ cs → filter (is_within u) cs ≡ cs
within-more t u cs le all =
    ap (filter (is_within u)) (sym all) ∙ filter_weaker (is_within t) (is_within u) (λ c. within_more t u c le) cs ∙ all

-- where none is within more none is within fewer
pub none-fewer : (t u : ℕ) (cs : List Created) → t ≤ u → filter (is_within u) cs ≡ [] → filter (is_within t) cs ≡ []
none-fewer t u cs le none =
    sym (filter_weaker (is_within t) (is_within u) (λ c. within_more t u c le) cs) ∙ filter_swap (is_within t) (is_within u) cs ∙ ap (filter (is_within t)) none

-- ---- of whom it is

abbrev pub is_by : ℕ → Passed → Bool
is_by q (Creates own c) = own == q
is_by q (Awaits own w awaited) = own == q
is_by q (Enters op cs) = false
is_by q Leaves = false

skip : (b more : Bool) (c : Created) (cs : List Created) → b ≡ false → cond (b && more) (c ∷ cs) cs ≡ cs
skip true more c cs h = cc
skip false more c cs h = refl

not_by : (b more : Bool) → b ≡ false → (b && more) ≡ false
not_by true more h = cc
not_by false more h = refl

-- what others do leaves its children as they are
pub unawaited-others : (q : ℕ) (ms rest : List Passed) → list_any (is_by q) ms ≡ false → unawaited_of q (ms ++ rest) ≡ unawaited_of q rest
unawaited-others q [] rest h = refl
unawaited-others q (Creates own c ∷ ms) rest h =
    let parts = or_parts (own == q) (list_any (is_by q) ms) h in
    skip (own == q) (stays_in_groups 0 (ms ++ rest) && not (list_any (is_wait_taking q c) (ms ++ rest))) c (unawaited_of q (ms ++ rest)) parts.0
    ∙ unawaited-others q ms rest parts.1
unawaited-others q (Awaits own w awaited ∷ ms) rest h = unawaited-others q ms rest (or_parts (own == q) (list_any (is_by q) ms) h).1
unawaited-others q (Enters op cs ∷ ms) rest h = unawaited-others q ms rest h
unawaited-others q (Leaves ∷ ms) rest h = unawaited-others q ms rest h

pub none-of-others : (q : ℕ) (ms : List Passed) → list_any (is_by q) ms ≡ false → unawaited_of q ms ≡ []
none-of-others q ms h = ap (unawaited_of q) (sym (append-nil ms)) ∙ unawaited-others q ms [] h

pub waits-of-others : (q : ℕ) (c : Created) (ms : List Passed) → list_any (is_by q) ms ≡ false → list_any (is_wait_taking q c) ms ≡ false
waits-of-others q c [] h = refl
waits-of-others q c (Creates own d ∷ ms) h = waits-of-others q c ms (or_parts (own == q) (list_any (is_by q) ms) h).1
waits-of-others q c (Awaits own w awaited ∷ ms) h =
    let parts = or_parts (own == q) (list_any (is_by q) ms) h in
    or_none ((own == q) && takes_child w c) (list_any (is_wait_taking q c) ms) (not_by (own == q) (takes_child w c) parts.0) (waits-of-others q c ms parts.1)
waits-of-others q c (Enters op cs ∷ ms) h = waits-of-others q c ms h
waits-of-others q c (Leaves ∷ ms) h = waits-of-others q c ms h

-- ---- one behind the other

-- these leave no group that was open before them
abbrev pub LeavesNone : List Passed → Type 0
LeavesNone ms = (n : ℕ) (before : List Passed) → stays_in_groups n (before ++ ms) ≡ stays_in_groups n before

-- each group that they enter they leave, and no other
abbrev pub IsBalanced : List Passed → Type 0
IsBalanced ms = (n : ℕ) (rest : List Passed) → stays_in_groups n (ms ++ rest) ≡ stays_in_groups n rest

leaves-none : (ms : List Passed) → ((n : ℕ) → stays_in_groups n ms ≡ true) → LeavesNone ms
leaves-none ms none n [] = none n
leaves-none ms none n (Creates own c ∷ before) = leaves-none ms none n before
leaves-none ms none n (Awaits own w awaited ∷ before) = leaves-none ms none n before
leaves-none ms none n (Enters op cs ∷ before) = leaves-none ms none (suc n) before
leaves-none ms none zero (Leaves ∷ before) = refl
leaves-none ms none (suc n) (Leaves ∷ before) = leaves-none ms none n before

pub leaves-none-balanced : (ms : List Passed) → IsBalanced ms → LeavesNone ms
leaves-none-balanced ms balanced = leaves-none ms (λ n. ap (stays_in_groups n) (sym (append-nil ms)) ∙ balanced n [])

pub leaves-none-alone : (m : Passed) → ((n : ℕ) → stays_in_groups n (m ∷ []) ≡ true) → LeavesNone (m ∷ [])
leaves-none-alone m none = leaves-none (m ∷ []) none

-- whether no wait in these takes the child
abbrev pub survives : ℕ → List Passed → Created → Bool
survives q ms c = not (list_any (is_wait_taking q c) ms)

kept : (e st a b : Bool) (c : Created) (s : Created → Bool) (us vs ws : List Created) → s c ≡ not b → vs ≡ filter s us ++ ws
    → cond (e && (st && not (a || b))) (c ∷ vs) vs ≡ filter s (cond (e && (st && not a)) (c ∷ us) us) ++ ws
kept false st a b c s us vs ws here is = is
kept true false a b c s us vs ws here is = is
kept true true true b c s us vs ws here is = is
kept true true false b c s us vs ws here is =
    ap (λ xs. cond (not b) (c ∷ xs) xs) is ∙ lifted (not b) ∙ ap (λ x. cond x (c ∷ filter s us) (filter s us) ++ ws) (sym here)
  where
    lifted : (x : Bool) → cond x (c ∷ (filter s us ++ ws)) (filter s us ++ ws) ≡ cond x (c ∷ filter s us) (filter s us) ++ ws
    lifted true = refl
    lifted false = refl

-- behind two lists those are unawaited that are so behind the first and that no wait of the second takes, and those of the second
pub unawaited-append : (q : ℕ) (ms rest : List Passed) → LeavesNone rest → unawaited_of q (ms ++ rest) ≡ filter (survives q rest) (unawaited_of q ms) ++ unawaited_of q rest
unawaited-append q [] rest none = refl
unawaited-append q (Creates own c ∷ ms) rest none =
    ap (λ st. cond ((own == q) && (st && not (list_any (is_wait_taking q c) (ms ++ rest)))) (c ∷ unawaited_of q (ms ++ rest)) (unawaited_of q (ms ++ rest))) (none 0 ms)
    ∙ ap (λ x. cond ((own == q) && (stays_in_groups 0 ms && not x)) (c ∷ unawaited_of q (ms ++ rest)) (unawaited_of q (ms ++ rest))) (list_any-append (is_wait_taking q c) ms rest)
    ∙ kept (own == q) (stays_in_groups 0 ms) (list_any (is_wait_taking q c) ms) (list_any (is_wait_taking q c) rest) c (survives q rest)
    (unawaited_of q ms) (unawaited_of q (ms ++ rest)) (unawaited_of q rest) refl (unawaited-append q ms rest none)
unawaited-append q (Awaits own w awaited ∷ ms) rest none = unawaited-append q ms rest none
unawaited-append q (Enters op cs ∷ ms) rest none = unawaited-append q ms rest none
unawaited-append q (Leaves ∷ ms) rest none = unawaited-append q ms rest none

-- ---- each wait is right

-- each wait in `ms` awaits exactly whom it is to, where `before` has passed
abbrev pub AreRight : List Passed → List Passed → Type 0
AreRight before [] = Unit {0}
AreRight before (Creates own c ∷ ms) = AreRight (before ++ Creates own c ∷ []) ms
AreRight before (Awaits own w awaited ∷ ms) = (awaited ≡ filter (takes_child w) (unawaited_of own before)) × AreRight (before ++ Awaits own w awaited ∷ []) ms
AreRight before (Enters op cs ∷ ms) = AreRight (before ++ Enters op cs ∷ []) ms
AreRight before (Leaves ∷ ms) = AreRight (before ++ Leaves ∷ []) ms

pub right-append : (before ms rest : List Passed) → AreRight before ms → AreRight (before ++ ms) rest → AreRight before (ms ++ rest)
right-append before [] rest one two = subst (λ b. AreRight b rest) (append-nil before) two
right-append before (Creates own c ∷ ms) rest one two =
    right-append (before ++ Creates own c ∷ []) ms rest one (subst (λ b. AreRight b rest) (sym (append_assoc before (Creates own c ∷ []) ms)) two)
right-append before (Awaits own w awaited ∷ ms) rest one two =
    (one.0, right-append (before ++ Awaits own w awaited ∷ []) ms rest one.1 (subst (λ b. AreRight b rest) (sym (append_assoc before (Awaits own w awaited ∷ []) ms)) two))
right-append before (Enters op cs ∷ ms) rest one two =
    right-append (before ++ Enters op cs ∷ []) ms rest one (subst (λ b. AreRight b rest) (sym (append_assoc before (Enters op cs ∷ []) ms)) two)
right-append before (Leaves ∷ ms) rest one two =
    right-append (before ++ Leaves ∷ []) ms rest one (subst (λ b. AreRight b rest) (sym (append_assoc before (Leaves ∷ []) ms)) two)

pub right-at : (before ms later : List Passed) (own : ℕ) (w : Option (List Use)) (awaited : List Created) → AreRight before (ms ++ Awaits own w awaited ∷ later)
    → awaited ≡ filter (takes_child w) (unawaited_of own (before ++ ms))
right-at before [] later own w awaited right = right.0 ∙ ap (λ b. filter (takes_child w) (unawaited_of own b)) (sym (append-nil before))
right-at before (Creates o c ∷ ms) later own w awaited right =
    right-at (before ++ Creates o c ∷ []) ms later own w awaited right ∙ ap (λ b. filter (takes_child w) (unawaited_of own b)) (append_assoc before (Creates o c ∷ []) ms)
right-at before (Awaits o v cs ∷ ms) later own w awaited right =
    right-at (before ++ Awaits o v cs ∷ []) ms later own w awaited right.1 ∙ ap (λ b. filter (takes_child w) (unawaited_of own b)) (append_assoc before (Awaits o v cs ∷ []) ms)
right-at before (Enters op cs ∷ ms) later own w awaited right =
    right-at (before ++ Enters op cs ∷ []) ms later own w awaited right ∙ ap (λ b. filter (takes_child w) (unawaited_of own b)) (append_assoc before (Enters op cs ∷ []) ms)
right-at before (Leaves ∷ ms) later own w awaited right =
    right-at (before ++ Leaves ∷ []) ms later own w awaited right ∙ ap (λ b. filter (takes_child w) (unawaited_of own b)) (append_assoc before (Leaves ∷ []) ms)
