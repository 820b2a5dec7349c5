-- Whom the wait awaits at which a task stands.
use Rattle.std.proofs.Common.{◌≡◌, ◌+◌, ◌==◌, ◌||◌, ℕ, Bool, true, false, not, cond, List, [], ◌∷◌, Some, None, take, refl, sym, ap, ◌∙◌, arith}
use Rattle.std.specs.List.{list_any, count_by}
use Rattle.std.proofs.Math.Bool.{and-false, and-true}
use Rattle.std.proofs.lemmas.Bool.Decides.{nat_tests}
use Rattle.std.proofs.lemmas.List.Sums.{sum_by-cons}
use Rattle.ot_depend.specs.Siblings.{Sibling, is_unfinished, with_finished}
use Rattle.ot_depend.proofs.WaitsLemmas.{free-finished}
use Rattle.ot_job_task.specs.Regions.{is_held}
use Rattle.ot_job_task.specs.RegionView.{KnowsFree}
use Rattle.ot_job_task.specs.declared.waiting.Waiting.{Waiting}
use Rattle.ot_job_task.specs.declared.waiting.Waiting.TheVariants.{Nowhere, ForAll, For}

-- a task at no wait is held by none
pub held-none : (children : List Sibling) → is_held None children ≡ false
held-none [] = refl
held-none (s ∷ ss) = ap (λ b. b || is_held None ss) (and-false (is_unfinished s)) ∙ held-none ss

-- at a wait that declares nothing each child that has not finished holds it
pub held-all : (children : List Sibling) → is_held (Some None) children ≡ list_any is_unfinished children
held-all [] = refl
held-all (s ∷ ss) = ap (λ b. b || is_held (Some None) ss) (and-true (is_unfinished s)) ∙ ap (λ b. is_unfinished s || b) (held-all ss)

abbrev one : Bool → ℕ
one b = cond b 1 0

-- none has not finished where they count to none
pub none-counted : (p : Sibling → Bool) (ss : List Sibling) → (count_by p ss == 0) ≡ not (list_any p ss)
none-counted p [] = refl
none-counted p (s ∷ ss) = by (none-counted p ss) (p s) refl
  where
    sum : count_by p (s ∷ ss) ≡ one (p s) + count_by p ss
    sum = sum_by-cons (λ x. cond {A = ℕ} (p x) 1 0) s ss

    by : (count_by p ss == 0) ≡ not (list_any p ss) → (b : Bool) → p s ≡ b → (count_by p (s ∷ ss) == 0) ≡ not (p s || list_any p ss)
    by rest true e =
        let is : one (p s) ≡ 1 = ap one e in
        let more : count_by p (s ∷ ss) ≡ 1 + count_by p ss = omega (arith, sum, is) in
        let some : (count_by p (s ∷ ss) == 0) ≡ false = grind (arith, nat_tests, more) in
        some ∙ sym (ap (λ b. not (b || list_any p ss)) e)
    by rest false e =
        let is : one (p s) ≡ 0 = ap one e in
        let same : count_by p (s ∷ ss) ≡ count_by p ss = omega (arith, sum, is) in
        ap (λ n. n == 0) same ∙ rest ∙ sym (ap (λ b. not (b || list_any p ss)) e)

-- what it knows of the first cells holds once a child has finished
pub knows-finished : (w : Waiting) (children : List Sibling) (child : ℕ) → KnowsFree w children → KnowsFree w (with_finished children child)
knows-finished Nowhere children child knows = tt
knows-finished ForAll children child knows = tt
knows-finished (For uses free) children child knows = free-finished children child (take free uses) knows
