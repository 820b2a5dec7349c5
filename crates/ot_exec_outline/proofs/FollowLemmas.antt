-- What happens on the way of some answers, in parts.
use Rattle.std.proofs.Common.{◌≡◌, ◌∙◌, ◌+◌, ℕ, List, [], ◌∷◌, ◌++◌, length, map, refl, sym, ap, arith}
use Rattle.std.specs.Prelude.{Bool, true, false, if◌then◌else◌, Some}
use Rattle.ot_model.specs.Serial.{State, bump, either}
use Rattle.ot_model.specs.declared.stmt.Mode.TheVariants.{Reads, Writes}
use Rattle.ot_check.specs.Offences.{use_as, Declared}
use Rattle.ot_race.specs.Events.{Event, event, Touches, Begins, Leaves}
use Rattle.ot_race_ways.specs.Known.{may_read}
use Rattle.ot_exec_outline.specs.Tree.{OutlineStep, SetAt, FoldAt, TouchAt, IfAt, ChooseAt, TaskAt, WaitAt, GroupAt, Steps, Done, Then}
use Rattle.ot_exec_outline.specs.Happens.{happens, happens_one, state_after_steps, state_after_step}
use Rattle.ot_exec_outline.specs.Followed.{branch_decided, number, by_answers, tasks, tasks_one, steps_events, step_events}

-- ---- answers are a way

-- where the tasks behind either body are as told, so are those behind the one that is taken
chosen_tasks : (b : Bool) (s t : State) (m n : ℕ) → s.tasks ≡ m → t.tasks ≡ n → (either (number b) s t).tasks ≡ (if b then m else n)
chosen_tasks true s t m n one two = one
chosen_tasks false s t m n one two = two

chosen_events : (b : Bool) (xs ys us vs : List Event) → us ≡ xs → vs ≡ ys → (if b then us else vs) ≡ either (number b) xs ys
chosen_events true xs ys us vs one two = one
chosen_events false xs ys us vs one two = two

no_more : (n : ℕ) → n + 0 ≡ n
no_more n = omega arith

mutual
  tasks_one-way : (answers : ℕ → Bool) (x : OutlineStep) (s : State) (t : ℕ) → s.tasks ≡ t → (state_after_step (by_answers answers) x s).tasks ≡ tasks_one answers x t
  tasks_one-way answers (SetAt k c e) s t same = no_more s.tasks ∙ same
  tasks_one-way answers (FoldAt k o c e) s t same = no_more s.tasks ∙ same
  tasks_one-way answers (TouchAt k us) s t same = no_more s.tasks ∙ same
  tasks_one-way answers (IfAt k n e a b) s t same =
      chosen_tasks (branch_decided answers n e) _ _ _ _ (tasks-way answers a (bump 0 1 s) t (no_more s.tasks ∙ same)) (tasks-way answers b (bump 0 1 s) t (no_more s.tasks ∙ same))
  tasks_one-way answers (ChooseAt k n a b) s t same =
      chosen_tasks (answers n) _ _ _ _ (tasks-way answers a (bump 0 1 s) t (no_more s.tasks ∙ same)) (tasks-way answers b (bump 0 1 s) t (no_more s.tasks ∙ same))
  tasks_one-way answers (TaskAt k d b) s t same = tasks-way answers b (bump 1 1 s) (t + 1) (ap (λ n. n + 1) same)
  tasks_one-way answers (WaitAt k w) s t same = no_more s.tasks ∙ same
  tasks_one-way answers (GroupAt k o cs b) s t same = tasks-way answers b (bump 0 1 s) t (no_more s.tasks ∙ same)

  tasks-way : (answers : ℕ → Bool) (b : Steps) (s : State) (t : ℕ) → s.tasks ≡ t → (state_after_steps (by_answers answers) b s).tasks ≡ tasks answers b t
  tasks-way answers Done s t same = same
  tasks-way answers (Then x rest) s t same =
      tasks-way answers rest (state_after_step (by_answers answers) x s) (tasks_one answers x t) (tasks_one-way answers x s t same)

mutual
  one-way : (answers : ℕ → Bool) (own : Declared) (me : ℕ) (x : OutlineStep) (s : State) (t : ℕ) → s.tasks ≡ t
      → step_events answers own me x t ≡ happens_one (by_answers answers) own me x s
  one-way answers own me (SetAt k c e) s t same = refl
  one-way answers own me (FoldAt k o c e) s t same = refl
  one-way answers own me (TouchAt k us) s t same = refl
  one-way answers own me (IfAt k n e a b) s t same =
      ap (λ es. event me k Touches (map (use_as Reads) (may_read e)) ∷ es)
      (chosen_events (branch_decided answers n e) _ _ _ _ (way answers own me a (bump 0 1 s) t (no_more s.tasks ∙ same)) (way answers own me b (bump 0 1 s) t (no_more s.tasks ∙ same)))
  one-way answers own me (ChooseAt k n a b) s t same =
      chosen_events (answers n) _ _ _ _ (way answers own me a (bump 0 1 s) t (no_more s.tasks ∙ same)) (way answers own me b (bump 0 1 s) t (no_more s.tasks ∙ same))
  one-way answers own me (TaskAt k d b) s t same =
      ap (λ n. event (n + 1) k (Begins me d) [] ∷ steps_events answers (Some d) (n + 1) b (n + 1)) (sym same)
      ∙ ap (λ es. event (s.tasks + 1) k (Begins me d) [] ∷ es) (way answers (Some d) (s.tasks + 1) b (bump 1 1 s) (s.tasks + 1) refl)
  one-way answers own me (WaitAt k w) s t same = refl
  one-way answers own me (GroupAt k o cs b) s t same =
      ap (λ es. es ++ event me k (Leaves (length es)) (map (use_as Writes) cs) ∷ []) (way answers own me b (bump 0 1 s) t (no_more s.tasks ∙ same))

  pub way : (answers : ℕ → Bool) (own : Declared) (me : ℕ) (b : Steps) (s : State) (t : ℕ) → s.tasks ≡ t
      → steps_events answers own me b t ≡ happens (by_answers answers) own me b s
  way answers own me Done s t same = refl
  way answers own me (Then x rest) s t same =
      ap (λ es. es ++ steps_events answers own me rest (tasks_one answers x t)) (one-way answers own me x s t same)
      ∙ ap (λ es. happens_one (by_answers answers) own me x s ++ es)
      (way answers own me rest (state_after_step (by_answers answers) x s) (tasks_one answers x t) (tasks_one-way answers x s t same))
