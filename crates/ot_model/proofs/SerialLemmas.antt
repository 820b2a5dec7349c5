-- The serial meaning: bodies in parts, and counts.
use Rattle.std.proofs.Common.{◌≡◌, ◌≤◌, ◌+◌, ℕ, true, false, List, refl, sym, ap, ◌∙◌, zero-add, arith}
use Rattle.std.specs.Prelude.{◌==◌, if◌then◌else◌, Bool}
use Rattle.ot_model.specs.Tree.{Set, Fold, If, Task, Wait, Group, Body, End, Next, append, size, tasks_in, val}
use Rattle.ot_model.specs.Cells.{cell_of}
use Rattle.ot_model.specs.Joining.{join_by}
use Rattle.ot_model.specs.Serial.{State, bump, change, either, serial, serial_run}

-- a body of two parts is run as the one and then the other
pub serial-append : (a b : Body) (s : State) → serial (append a b) s ≡ serial b (serial a s)
serial-append End b s = refl
serial-append (Next x rest) b s = serial-append rest b _

-- what holds of both bodies' outcomes holds of an `if`
pub either-both : {A : Type 0} (n : ℕ) (one two : A) (P : A → Type 0) → P one → P two → P (either n one two)
either-both n one two P p q =
    let choice : (b : Bool) → P (if b then two else one) = λ b. elim b as (λ b. P (if b then two else one)) [ true ↦ q | false ↦ p ] in
    choice (n == 0)

-- a function of an `if`'s outcome
pub either-ap : {A B : Type 0} (n : ℕ) (one two : A) (f : A → B) → either n (f one) (f two) ≡ f (either n one two)
either-ap n one two f =
    let choice : (b : Bool) → (if b then f two else f one) ≡ f (if b then two else one) =
    λ b. elim b as (λ b. (if b then f two else f one) ≡ f (if b then two else one)) [ true ↦ refl | false ↦ refl ] in
    choice (n == 0)

-- counts may be added in either order
pub bump-bump : (t u tasks units : ℕ) (s : State) → bump t u (bump tasks units s) ≡ bump tasks units (bump t u s)
bump-bump t u tasks units s =
    let at : ℕ → ℕ → State = λ m n. record { cells = s.cells; tasks = m; units = n } in
    let p : s.tasks + tasks + t ≡ s.tasks + t + tasks = omega arith in
    let q : s.units + units + u ≡ s.units + u + units = omega arith in
    ap (λ m. at m (s.units + units + u)) p ∙ ap (at (s.tasks + t + tasks)) q

-- counts may be made before or after a body
pub serial-bump : (b : Body) (tasks units : ℕ) (s : State) → serial b (bump tasks units s) ≡ bump tasks units (serial b s)
serial-bump End t u s = refl
serial-bump (Next (Set c e) rest) t u s = ap (serial rest) (bump-bump 0 1 t u (change s c (λ _. val (cell_of s.cells) e))) ∙ serial-bump rest t u _
serial-bump (Next (Fold o c e) rest) t u s = ap (serial rest) (bump-bump 0 1 t u (change s c _)) ∙ serial-bump rest t u _
serial-bump (Next (If e a b) rest) t u s =
    let n = val (cell_of s.cells) e in
    let one : serial a (bump 0 1 (bump t u s)) ≡ bump t u (serial a (bump 0 1 s)) = ap (serial a) (bump-bump 0 1 t u s) ∙ serial-bump a t u (bump 0 1 s) in
    let two : serial b (bump 0 1 (bump t u s)) ≡ bump t u (serial b (bump 0 1 s)) = ap (serial b) (bump-bump 0 1 t u s) ∙ serial-bump b t u (bump 0 1 s) in
    ap (λ x. serial rest (either n x (serial b (bump 0 1 (bump t u s))))) one
    ∙ ap (λ x. serial rest (either n (bump t u (serial a (bump 0 1 s))) x)) two
    ∙ ap (serial rest) (either-ap n (serial a (bump 0 1 s)) (serial b (bump 0 1 s)) (bump t u))
    ∙ serial-bump rest t u _
serial-bump (Next (Task d b) rest) t u s =
    ap (λ x. serial rest (serial b x)) (bump-bump 1 1 t u s) ∙ ap (serial rest) (serial-bump b t u (bump 1 1 s)) ∙ serial-bump rest t u _
serial-bump (Next (Wait w) rest) t u s = ap (serial rest) (bump-bump 0 1 t u s) ∙ serial-bump rest t u _
serial-bump (Next (Group o cs b) rest) t u s =
    ap (λ x. serial rest (serial b x)) (bump-bump 0 1 t u s) ∙ ap (serial rest) (serial-bump b t u (bump 0 1 s)) ∙ serial-bump rest t u _

-- a body from these counts: the same cells, and its own counts on top
pub serial-from : (b : Body) (s : State) → serial b s ≡ bump s.tasks s.units (serial_run b s.cells)
serial-from b s =
    let at : ℕ → ℕ → State = λ m n. record { cells = s.cells; tasks = m; units = n } in
    ap (λ m. serial b (at m s.units)) (sym (zero-add s.tasks)) ∙ ap (λ n. serial b (at (0 + s.tasks) n)) (sym (zero-add s.units))
    ∙ serial-bump b s.tasks s.units (at 0 0)

-- no more task statements are executed than the body has
pub serial-tasks-≤ : (b : Body) (s : State) → (serial b s).tasks ≤ s.tasks + tasks_in b
serial-tasks-≤ End s = omega arith
serial-tasks-≤ (Next (Set c e) rest) s = omega (arith, serial-tasks-≤ rest (bump 0 1 (change s c (λ _. val (cell_of s.cells) e))))
serial-tasks-≤ (Next (Fold o c e) rest) s = omega (arith, serial-tasks-≤ rest (bump 0 1 (change s c (λ n. join_by o n (val (cell_of s.cells) e)))))
serial-tasks-≤ (Next (If e a b) rest) s =
    let n = val (cell_of s.cells) e in
    let one = serial a (bump 0 1 s) in
    let two = serial b (bump 0 1 s) in
    let taken : (either n one two).tasks ≤ s.tasks + (tasks_in a + tasks_in b) =
    either-both n one two (λ x. x.tasks ≤ s.tasks + (tasks_in a + tasks_in b))
    (omega (arith, serial-tasks-≤ a (bump 0 1 s))) (omega (arith, serial-tasks-≤ b (bump 0 1 s))) in
    omega (arith, serial-tasks-≤ rest (either n one two))
serial-tasks-≤ (Next (Task d b) rest) s = omega (arith, serial-tasks-≤ b (bump 1 1 s), serial-tasks-≤ rest (serial b (bump 1 1 s)))
serial-tasks-≤ (Next (Wait w) rest) s = omega (arith, serial-tasks-≤ rest (bump 0 1 s))
serial-tasks-≤ (Next (Group o cs b) rest) s = omega (arith, serial-tasks-≤ b (bump 0 1 s), serial-tasks-≤ rest (serial b (bump 0 1 s)))

-- no more units are executed than the body has statements
pub serial-units-≤ : (b : Body) (s : State) → (serial b s).units ≤ s.units + size b
serial-units-≤ End s = omega arith
serial-units-≤ (Next (Set c e) rest) s = omega (arith, serial-units-≤ rest (bump 0 1 (change s c (λ _. val (cell_of s.cells) e))))
serial-units-≤ (Next (Fold o c e) rest) s = omega (arith, serial-units-≤ rest (bump 0 1 (change s c (λ n. join_by o n (val (cell_of s.cells) e)))))
serial-units-≤ (Next (If e a b) rest) s =
    let n = val (cell_of s.cells) e in
    let one = serial a (bump 0 1 s) in
    let two = serial b (bump 0 1 s) in
    let taken : (either n one two).units ≤ s.units + (1 + size a + size b) =
    either-both n one two (λ x. x.units ≤ s.units + (1 + size a + size b))
    (omega (arith, serial-units-≤ a (bump 0 1 s))) (omega (arith, serial-units-≤ b (bump 0 1 s))) in
    omega (arith, serial-units-≤ rest (either n one two))
serial-units-≤ (Next (Task d b) rest) s = omega (arith, serial-units-≤ b (bump 1 1 s), serial-units-≤ rest (serial b (bump 1 1 s)))
serial-units-≤ (Next (Wait w) rest) s = omega (arith, serial-units-≤ rest (bump 0 1 s))
serial-units-≤ (Next (Group o cs b) rest) s = omega (arith, serial-units-≤ b (bump 0 1 s), serial-units-≤ rest (serial b (bump 0 1 s)))

-- the same from no counts
pub serial_run-≤ : (b : Body) (cells : List (List ℕ)) → ((serial_run b cells).tasks ≤ tasks_in b) × ((serial_run b cells).units ≤ size b)
serial_run-≤ b cells =
    let s : State = record { cells = cells; tasks = 0; units = 0 } in
    (omega (arith, serial-tasks-≤ b s), omega (arith, serial-units-≤ b s))
