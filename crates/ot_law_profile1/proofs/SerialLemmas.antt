-- Programs of the first profile mean what they meant, and count what they counted.
use Rattle.std.proofs.Common.{◌≡◌, ◌+◌, Bool, ◌||◌, List, [], ◌∷◌, map, refl, ap, ◌∙◌}
use Rattle.std.specs.List.{list_any}
use Rattle.ot_model.specs.Cells.{cell_of}
use Rattle.ot_model.specs.Tree.{val, size, size_one, tasks_in, tasks_in_one}
use Rattle.ot_model.specs.Serial.{State, bump, either, serial, serial_one}
use Rattle.ot_law_profile1.specs.Tree.{S1, Set1, Add1, If1, Task1, Wait1, Group1, Body1, End1, Next1, size1, size_one1, tasks_in1, tasks_in_one1}
use Rattle.ot_law_profile1.specs.Serial.{serial1, serial_one1}
use Rattle.ot_law_profile1.specs.Upward.{up, up_one}

mutual
  pub size_one-up : (x : S1) → size_one (up_one x) ≡ size_one1 x
  size_one-up (Set1 c e) = refl
  size_one-up (Add1 c e) = refl
  size_one-up (If1 e a b) = ap (λ n. 1 + n + size (up b)) (size-up a) ∙ ap (λ n. 1 + size1 a + n) (size-up b)
  size_one-up (Task1 d b) = ap (λ n. 1 + n) (size-up b)
  size_one-up Wait1 = refl
  size_one-up (Group1 cs b) = ap (λ n. 1 + n) (size-up b)

  pub size-up : (b : Body1) → size (up b) ≡ size1 b
  size-up End1 = refl
  size-up (Next1 x rest) = ap (λ n. n + size (up rest)) (size_one-up x) ∙ ap (λ n. size_one1 x + n) (size-up rest)

mutual
  tasks_in_one-up : (x : S1) → tasks_in_one (up_one x) ≡ tasks_in_one1 x
  tasks_in_one-up (Set1 c e) = refl
  tasks_in_one-up (Add1 c e) = refl
  tasks_in_one-up (If1 e a b) = ap (λ n. n + tasks_in (up b)) (tasks_in-up a) ∙ ap (λ n. tasks_in1 a + n) (tasks_in-up b)
  tasks_in_one-up (Task1 d b) = ap (λ n. 1 + n) (tasks_in-up b)
  tasks_in_one-up Wait1 = refl
  tasks_in_one-up (Group1 cs b) = tasks_in-up b

  pub tasks_in-up : (b : Body1) → tasks_in (up b) ≡ tasks_in1 b
  tasks_in-up End1 = refl
  tasks_in-up (Next1 x rest) = ap (λ n. n + tasks_in (up rest)) (tasks_in_one-up x) ∙ ap (λ n. tasks_in_one1 x + n) (tasks_in-up rest)

mutual
  serial_one-up : (x : S1) (s : State) → serial_one (up_one x) s ≡ serial_one1 x s
  serial_one-up (Set1 c e) s = refl
  serial_one-up (Add1 c e) s = refl
  serial_one-up (If1 e a b) s =
      ap (λ t. either (val (cell_of s.cells) e) t (serial (up b) (bump 0 1 s))) (serial-up a (bump 0 1 s))
      ∙ ap (either (val (cell_of s.cells) e) (serial1 a (bump 0 1 s))) (serial-up b (bump 0 1 s))
  serial_one-up (Task1 d b) s = serial-up b (bump 1 1 s)
  serial_one-up Wait1 s = refl
  serial_one-up (Group1 cs b) s = serial-up b (bump 0 1 s)

  pub serial-up : (b : Body1) (s : State) → serial (up b) s ≡ serial1 b s
  serial-up End1 s = refl
  serial-up (Next1 x rest) s = ap (serial (up rest)) (serial_one-up x s) ∙ serial-up rest (serial_one1 x s)

-- ---- one test of some and another of what they become, for the crates above

pub any-map : {A B : Type 0} (f : A → B) (p : B → Bool) (q : A → Bool) → ((x : A) → p (f x) ≡ q x) → (xs : List A) → list_any p (map f xs) ≡ list_any q xs
any-map f p q h [] = refl
any-map f p q h (x ∷ xs) = ap (λ w. w || list_any p (map f xs)) (h x) ∙ ap (λ w. q x || w) (any-map f p q h xs)

pub any-same : {A : Type 0} (p q : A → Bool) → ((x : A) → p x ≡ q x) → (xs : List A) → list_any p xs ≡ list_any q xs
any-same p q h [] = refl
any-same p q h (x ∷ xs) = ap (λ w. w || list_any p xs) (h x) ∙ ap (λ w. q x || w) (any-same p q h xs)
