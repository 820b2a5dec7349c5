-- The walk that carries one task, step by step.
use Rattle.std.proofs.Common.{◌≡◌, ◌≢◌, ℕ, ◌+◌, Bool, true, false, not, List, refl, sym, ap, ◌∙◌, subst, inl, inr, arith}
use Rattle.std.specs.Prelude.{◌⊎◌, ◌==◌, if◌then◌else◌, Option, Some, None, Result, Ok, Err}
use Rattle.std.specs.Option.{option_or}
use Rattle.std.proofs.lemmas.Bool.Decides.{nat_tests}
use Rattle.ot_model.specs.Tree.{E, S, If, Body, Next, size, size_one}
use Rattle.ot_model.specs.declared.stmt.Use.{Use}
use Rattle.ot_check.proofs.Cited.{not_true}
use Rattle.ot_why_blame.specs.declared.walk.Search.{Search}
use Rattle.ot_why_blame.specs.declared.walk.Arrived.{Arrived}
use Rattle.ot_why_blame.specs.declared.walk.Behind.{Behind}
use Rattle.ot_why_blame.specs.Walk.{Pending, pending_of, Declares, only, pending_carried, carried_one, met_statement, met_one, met_inside, Follows, FollowsOne, FollowsInside}

-- ---- the choices of the code

pub or-cases : (first second chosen : Pending) → chosen ≡ option_or first second → (chosen ≡ first) ⊎ (chosen ≡ second)
or-cases None second chosen is = inr is
or-cases (Some child) second chosen is = inl is

pub if-cases : (test : Bool) (one other chosen : Pending) → chosen ≡ (if test then one else other) → (chosen ≡ one) ⊎ (chosen ≡ other)
if-cases true one other chosen is = inl is
if-cases false one other chosen is = inr is

pub only-cases : (test : List Use → Bool) (child chosen : Pending) → chosen ≡ only test child → (chosen ≡ None) ⊎ ((chosen ≡ child) × Declares (λ d. test d ≡ true) child)
only-cases test None chosen is = inl is
only-cases test (Some child) chosen is = by_test (test child.1) refl is
  where
    by_test : (b : Bool) → test child.1 ≡ b → chosen ≡ (if b then Some child else None) → (chosen ≡ None) ⊎ ((chosen ≡ Some child) × (test child.1 ≡ true))
    by_test true passed is = inr (is, passed)
    by_test false passed is = inl is

pub declares_not : (test : List Use → Bool) (child : Pending) → Declares (λ d. not (test d) ≡ true) child → Declares (λ d. test d ≡ false) child
declares_not test None h = tt
declares_not test (Some child) h = not_true (test child.1) h

-- ---- a statement

pub here-is : (k place : ℕ) → k ≡ place → (k == place) ≡ true
here-is k place is = grind (arith, nat_tests)

pub here-not : (k place : ℕ) → k ≢ place → (k == place) ≡ false
here-not k place other = grind (arith, nat_tests)

pub met-here : (place task : ℕ) (before : Pending) (k : ℕ) (x : S) → k ≡ place → met_one place task before k x ≡ Some (x, before)
met-here place task before k x is = ap (λ b. if b then Some (x, before) else met_inside place task before k x) (here-is k place is)

pub met-past : (place task : ℕ) (before : Pending) (k : ℕ) (x : S) → k ≢ place → met_one place task before k x ≡ met_inside place task before k x
met-past place task before k x other = ap (λ b. if b then Some (x, before) else met_inside place task before k x) (here-not k place other)

follows_as : (later : Pending) (one two : Option (S × Pending)) (r : Result Behind Arrived) → one ≡ two → Follows later two r → Follows later one r
follows_as later one two (Ok behind) is h = (h.0, is ∙ h.1)
follows_as later one two (Err at) is h = is ∙ h

-- at another place
pub follows_past : (s : Search) (before : Pending) (k : ℕ) (x y : S) (r : Result Behind Arrived) → k ≢ s.place → x ≡ y → FollowsInside s before k y r → FollowsOne s before k x r
follows_past s before k x y r other is h =
    subst (λ z. FollowsOne s before k z r) (sym is)
    (follows_as (carried_one s.child before k y) (met_one s.place s.child before k y) (met_inside s.place s.child before k y) r (met-past s.place s.child before k y other) h)

pub follows_still : (s : Search) (before : Pending) (k : ℕ) (x y : S) (behind : Behind) → k ≢ s.place → x ≡ y → pending_of behind.child ≡ carried_one s.child before k y →
    met_inside s.place s.child before k y ≡ None → FollowsOne s before k x (Ok behind)
follows_still s before k x y behind other is later none = follows_past s before k x y (Ok behind) other is (later, none)

-- an `if` whose first body was walked, and then the second
pub follows_other : (s : Search) (before first : Pending) (k n : ℕ) (e : E) (a b : Body) (r : Result Behind Arrived) → n ≡ k + 1 + size a →
    first ≡ pending_carried s.child before (k + 1) a → met_statement s.place s.child before (k + 1) a ≡ None →
    Follows (option_or (pending_carried s.child before n b) first) (met_statement s.place s.child before n b) r → FollowsInside s before k (If e a b) r
follows_other s before first k n e a b (Ok behind) at one none h = (
  h.0 ∙ ap (λ p. option_or (pending_carried s.child before n b) p) one ∙ ap (λ m. option_or (pending_carried s.child before m b) (pending_carried s.child before (k + 1) a)) at,
  ap (λ o. option_or o (met_statement s.place s.child before (k + 1 + size a) b)) none ∙ ap (λ m. met_statement s.place s.child before m b) (sym at) ∙ h.1,
)
follows_other s before first k n e a b (Err arrived) at one none h =
    ap (λ o. option_or o (met_statement s.place s.child before (k + 1 + size a) b)) none ∙ ap (λ m. met_statement s.place s.child before m b) (sym at) ∙ h

-- an `if` in whose first body it came to the place
pub follows_first : (s : Search) (before : Pending) (k : ℕ) (e : E) (a b : Body) (here : S × Pending) → met_statement s.place s.child before (k + 1) a ≡ Some here →
    met_inside s.place s.child before k (If e a b) ≡ Some here
follows_first s before k e a b here h = ap (λ o. option_or o (met_statement s.place s.child before (k + 1 + size a) b)) h

-- ---- a body

pub carried-next : (task : ℕ) (p q : Pending) (k n : ℕ) (x : S) (more : Body) → q ≡ carried_one task p k x → n ≡ k + size_one x → pending_carried task p k (Next x more) ≡ pending_carried task q n more
carried-next task p q k n x more one at = ap (λ r. pending_carried task r (k + size_one x) more) (sym one) ∙ ap (λ m. pending_carried task q m more) (sym at)

pub met-next : (place task : ℕ) (p q : Pending) (k n : ℕ) (x : S) (more : Body) → q ≡ carried_one task p k x → n ≡ k + size_one x → met_one place task p k x ≡ None →
    met_statement place task p k (Next x more) ≡ met_statement place task q n more
met-next place task p q k n x more one at none =
    ap (λ o. option_or o (met_statement place task (carried_one task p k x) (k + size_one x) more)) none
    ∙ ap (λ r. met_statement place task r (k + size_one x) more) (sym one)
    ∙ ap (λ m. met_statement place task q m more) (sym at)

pub met-first : (place task : ℕ) (p : Pending) (k : ℕ) (x : S) (more : Body) (here : S × Pending) → met_one place task p k x ≡ Some here → met_statement place task p k (Next x more) ≡ Some here
met-first place task p k x more here h = ap (λ o. option_or o (met_statement place task (carried_one task p k x) (k + size_one x) more)) h
