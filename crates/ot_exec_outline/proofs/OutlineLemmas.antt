-- The outline of a program, its program and its events.
use Rattle.std.proofs.Common.{◌≡◌, ◌∙◌, ◌+◌, ℕ, [], ◌∷◌, ◌++◌, length, map, refl, ap}
use Rattle.std.specs.Prelude.{Option, Some, None}
use Rattle.std.specs.Option.{option_or}
use Rattle.ot_model.specs.Tree.{S, Set, Fold, If, Task, Wait, Group, Body, End, Next, size, size_one}
use Rattle.ot_model.specs.Serial.{State, bump, either}
use Rattle.ot_model.specs.declared.stmt.Mode.TheVariants.{Reads, Writes}
use Rattle.ot_check.specs.Offences.{use_as, Declared}
use Rattle.ot_race.specs.Events as runs
use Rattle.ot_race.specs.Events.{event, Touches, Begins, Leaves}
use Rattle.ot_exec_outline.specs.Tree.{outline, outline_one, body_of_steps, statement_of, no_form, no_form_one}
use Rattle.ot_exec_outline.specs.Happens.{way_as, happens, happens_one, state_after_steps, state_after_step}

-- ---- it is the program

mutual
  same_one : (k : ℕ) (x : S) → statement_of (outline_one k x) ≡ x
  same_one k (Set c e) = refl
  same_one k (Fold o c e) = refl
  same_one k (If e a b) =
      ap (λ one. If e one (body_of_steps (outline (k + 1 + size a) b))) (same (k + 1) a) ∙ ap (λ two. If e a two) (same (k + 1 + size a) b)
  same_one k (Task d b) = ap (λ inside. Task d inside) (same (k + 1) b)
  same_one k (Wait w) = refl
  same_one k (Group o cs b) = ap (λ inside. Group o cs inside) (same (k + 1) b)

  pub same : (k : ℕ) (b : Body) → body_of_steps (outline k b) ≡ b
  same k End = refl
  same k (Next x rest) =
      ap (λ y. Next y (body_of_steps (outline (k + size_one x) rest))) (same_one k x) ∙ ap (λ later. Next x later) (same (k + size_one x) rest)

both_none : (a b : Option ℕ) → a ≡ None → b ≡ None → option_or a b ≡ None
both_none a b one two = ap (λ o. option_or o b) one ∙ two

mutual
  plain_one : (k : ℕ) (x : S) → no_form_one (outline_one k x) ≡ None
  plain_one k (Set c e) = refl
  plain_one k (Fold o c e) = refl
  plain_one k (If e a b) = both_none _ _ (plain (k + 1) a) (plain (k + 1 + size a) b)
  plain_one k (Task d b) = plain (k + 1) b
  plain_one k (Wait w) = refl
  plain_one k (Group o cs b) = plain (k + 1) b

  pub plain : (k : ℕ) (b : Body) → no_form (outline k b) ≡ None
  plain k End = refl
  plain k (Next x rest) = both_none _ _ (plain_one k x) (plain (k + size_one x) rest)

-- ---- its events

mutual
  state_one : (way : runs.Way) (chosen : ℕ → ℕ) (k : ℕ) (x : S) (s : State) → state_after_step (way_as way chosen) (outline_one k x) s ≡ runs.after_one way x s
  state_one way chosen k (Set c e) s = refl
  state_one way chosen k (Fold o c e) s = refl
  state_one way chosen k (If e a b) s =
      let n = way.condition s e in
      ap (λ t. either n t (state_after_steps (way_as way chosen) (outline (k + 1 + size a) b) (bump 0 1 s))) (state way chosen (k + 1) a (bump 0 1 s))
      ∙ ap (either n (runs.after way a (bump 0 1 s))) (state way chosen (k + 1 + size a) b (bump 0 1 s))
  state_one way chosen k (Task d b) s = state way chosen (k + 1) b (bump 1 1 s)
  state_one way chosen k (Wait w) s = refl
  state_one way chosen k (Group o cs b) s = state way chosen (k + 1) b (bump 0 1 s)

  state : (way : runs.Way) (chosen : ℕ → ℕ) (k : ℕ) (b : Body) (s : State) → state_after_steps (way_as way chosen) (outline k b) s ≡ runs.after way b s
  state way chosen k End s = refl
  state way chosen k (Next x rest) s =
      ap (state_after_steps (way_as way chosen) (outline (k + size_one x) rest)) (state_one way chosen k x s)
      ∙ state way chosen (k + size_one x) rest (runs.after_one way x s)

mutual
  events_one : (way : runs.Way) (chosen : ℕ → ℕ) (own : Declared) (me k : ℕ) (x : S) (s : State)
      → happens_one (way_as way chosen) own me (outline_one k x) s ≡ runs.events_one way own me k x s
  events_one way chosen own me k (Set c e) s = refl
  events_one way chosen own me k (Fold o c e) s = refl
  events_one way chosen own me k (If e a b) s =
      let n = way.condition s e in
      let here = event me k Touches (map (use_as Reads) (way.reads s e)) in
      ap (λ es. here ∷ either n es (happens (way_as way chosen) own me (outline (k + 1 + size a) b) (bump 0 1 s))) (events way chosen own me (k + 1) a (bump 0 1 s))
      ∙ ap (λ es. here ∷ either n (runs.events way own me (k + 1) a (bump 0 1 s)) es) (events way chosen own me (k + 1 + size a) b (bump 0 1 s))
  events_one way chosen own me k (Task d b) s =
      ap (λ es. event (s.tasks + 1) k (Begins me d) [] ∷ es) (events way chosen (Some d) (s.tasks + 1) (k + 1) b (bump 1 1 s))
  events_one way chosen own me k (Wait w) s = refl
  events_one way chosen own me k (Group o cs b) s =
      ap (λ es. es ++ event me k (Leaves (length es)) (map (use_as Writes) cs) ∷ []) (events way chosen own me (k + 1) b (bump 0 1 s))

  pub events : (way : runs.Way) (chosen : ℕ → ℕ) (own : Declared) (me k : ℕ) (b : Body) (s : State)
      → happens (way_as way chosen) own me (outline k b) s ≡ runs.events way own me k b s
  events way chosen own me k End s = refl
  events way chosen own me k (Next x rest) s =
      ap (λ es. es ++ happens (way_as way chosen) own me (outline (k + size_one x) rest) (state_after_step (way_as way chosen) (outline_one k x) s))
      (events_one way chosen own me k x s)
      ∙ ap (λ t. runs.events_one way own me k x s ++ happens (way_as way chosen) own me (outline (k + size_one x) rest) t) (state_one way chosen k x s)
      ∙ ap (λ es. runs.events_one way own me k x s ++ es) (events way chosen own me (k + size_one x) rest (runs.after_one way x s))
