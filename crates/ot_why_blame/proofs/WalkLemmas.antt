-- Steps of the walk: what it carries, and where it comes.
use Rattle.std.proofs.Common.{◌≡◌, ℕ, ◌+◌, ◌++◌, true, false, not, List, [], ◌∷◌, refl, sym, ap, subst, inl, inr, ◌∙◌, append_assoc, append-nil}
use Rattle.std.specs.Prelude.{⊤, Option, Some, None, Result, Ok, Err, IfSome, IfErr}
use Rattle.ot_model.specs.Tree.{E, S, Set, Fold, If, Task, Wait, Group, Body, End, Next, size, size_one}
use Rattle.ot_model.specs.declared.expr.Cell.{Cell}
use Rattle.ot_model.specs.declared.fold.Fold.{Fold as Operation}
use Rattle.ot_model.specs.declared.stmt.Use.{Use}
use Rattle.ot_check.specs.Offences.{Create, Await, Enter, Leave, Step, At, touch_steps, touches, PassesOne, Passes, stays_within, awaits, is_awaited}
use Rattle.ot_check.specs.Discipline.{through}
use Rattle.ot_check.proofs.Cited.{and_true, and_left, and_right, true_not, not_true, false_or, or_none, IsClosed, closed_of, within-closed, awaited-append, touched-balanced, touched-awaited, passes_one-closed, some_path, some_path_one, through-to}
use Rattle.ot_why_blame.specs.declared.child.Child.{Child}
use Rattle.ot_why_blame.specs.Races.{IsPending, StandsAt, Somewhere, InTask, InTaskOne, IsAt}
use Rattle.ot_why_blame.specs.Walk.{Pending, pending_of, Declares, Carried, Carries, Reaches, Comes, Arrives, ArrivesOne}

-- ---- who stays pending

pending_past : (steps path : List Step) (child : ℕ) (declared : List Use) → IsClosed path → is_awaited declared path ≡ false
    → IsPending steps child declared → IsPending (steps ++ path) child declared
pending_past steps path child declared closed none h = record {
  before = h.before;
  behind = h.behind ++ path;
  created = ap (λ s. s ++ path) h.created ∙ append_assoc h.before (At child (Create declared) ∷ h.behind) path;
  unawaited = and_true (stays_within 0 (h.behind ++ path)) (not (is_awaited declared (h.behind ++ path)))
      (within-closed h.behind path closed 0 ∙ and_left (stays_within 0 h.behind) (not (is_awaited declared h.behind)) h.unawaited)
      (true_not (is_awaited declared (h.behind ++ path)) (awaited-append declared h.behind path
      ∙ false_or (is_awaited declared h.behind) (is_awaited declared path)
      (not_true (is_awaited declared h.behind) (and_right (stays_within 0 h.behind) (not (is_awaited declared h.behind)) h.unawaited)) none));
}

pub carried_past : (steps path : List Step) (p : Pending) → IsClosed path → Declares (λ d. is_awaited d path ≡ false) p
    → Carried steps p → Carried (steps ++ path) p
carried_past steps path None closed none h = tt
carried_past steps path (Some child) closed none h = pending_past steps path child.0 child.1 closed none h

-- what is true of each declaration
of_each : (P : List Use → Type 0) (p : Pending) → ((d : List Use) → P d) → Declares P p
of_each P None each = tt
of_each P (Some child) each = each child.1

carried_touched : (steps : List Step) (k : ℕ) (uses : List Use) (p : Pending) → Carried steps p → Carried (steps ++ touch_steps k uses) p
carried_touched steps k uses p h =
    carried_past steps (touch_steps k uses) p (closed_of (touch_steps k uses) (touched-balanced k uses))
    (of_each (λ d. is_awaited d (touch_steps k uses) ≡ false) p (λ d. touched-awaited d k uses)) h

-- ---- what is carried behind a statement

pub carries-set : (k : ℕ) (c : Cell) (e : E) (p : Pending) → Carries (PassesOne k (Set c e)) p p
carries-set k c e p steps h = (touch_steps k (touches (Set c e)), refl, carried_touched steps k (touches (Set c e)) p h)

pub carries-fold : (k : ℕ) (o : Operation) (c : Cell) (e : E) (p : Pending) → Carries (PassesOne k (Fold o c e)) p p
carries-fold k o c e p steps h = (touch_steps k (touches (Fold o c e)), refl, carried_touched steps k (touches (Fold o c e)) p h)

pub carries-none : (k : ℕ) (x : S) (p : Pending) → Carries (PassesOne k x) p None
carries-none k x p steps h = let w = some_path_one k x in (w.0, w.1, tt)

pub carries-first : (k : ℕ) (e : E) (a b : Body) (p q : Pending) → Carries (Passes (k + 1) a) p q → Carries (PassesOne k (If e a b)) p q
carries-first k e a b p q one steps h =
    let t = touch_steps k (touches (If e a b)) in
    let w = one (steps ++ t) (carried_touched steps k (touches (If e a b)) p h) in
    (t ++ w.0, (w.0, refl, inl w.1), subst (λ s. Carried s q) (append_assoc steps t w.0) w.2)

pub carries-second : (k : ℕ) (e : E) (a b : Body) (p q : Pending) → Carries (Passes (k + 1 + size a) b) p q → Carries (PassesOne k (If e a b)) p q
carries-second k e a b p q two steps h =
    let t = touch_steps k (touches (If e a b)) in
    let w = two (steps ++ t) (carried_touched steps k (touches (If e a b)) p h) in
    (t ++ w.0, (w.0, refl, inr w.1), subst (λ s. Carried s q) (append_assoc steps t w.0) w.2)

pub carries-task : (k : ℕ) (d : List Use) (b : Body) (p : Pending) → Carries (PassesOne k (Task d b)) p p
carries-task k d b p steps h =
    let path : List Step = At k (Create d) ∷ [] in
    (path, refl, carried_past steps path p (λ n. refl) (of_each (λ e. is_awaited e path ≡ false) p (λ e. refl)) h)

pub carries-made : (k : ℕ) (d : List Use) (b : Body) (p : Pending) → Carries (PassesOne k (Task d b)) p (Some (k, d))
carries-made k d b p steps h = (At k (Create d) ∷ [], refl, record { before = steps; behind = []; created = refl; unawaited = refl })

pub carries-wait : (k : ℕ) (w : Option (List Use)) (p : Pending) → Declares (λ d. awaits w d ≡ false) p → Carries (PassesOne k (Wait w)) p p
carries-wait k w None free steps h = (At k (Await w) ∷ [], refl, tt)
carries-wait k w (Some child) free steps h =
    let path : List Step = At k (Await w) ∷ [] in
    (path, refl, pending_past steps path child.0 child.1 (λ n. refl) (or_none (awaits w child.1) ∙ free) h)

-- a path through a group that doesn't await it
through_group : (d : List Use) (k : ℕ) (o : Operation) (cells : List Cell) (b : Body) → through d b ≡ true
    → (path : List Step) × PassesOne k (Group o cells b) path × (is_awaited d path ≡ false)
through_group d k o cells b h =
    let w = through-to d (k + 1) b h in
    (At k (Enter o cells) ∷ (w.0 ++ At k Leave ∷ []), (w.0, refl, w.1), awaited-append d w.0 (At k Leave ∷ []) ∙ or_none (is_awaited d w.0) ∙ w.2)

pub carries-group : (k : ℕ) (o : Operation) (cells : List Cell) (b : Body) (p : Pending) → Declares (λ d. through d b ≡ true) p
    → Carries (PassesOne k (Group o cells b)) p p
carries-group k o cells b None free steps h = let w = some_path_one k (Group o cells b) in (w.0, w.1, tt)
carries-group k o cells b (Some child) free steps h =
    let w = through_group child.1 k o cells b free in
    (w.0, w.1, pending_past steps w.0 child.0 child.1 (passes_one-closed k (Group o cells b) w.0 w.1) w.2 h)

-- ---- what is carried behind a body

pub carries-next : (k : ℕ) (x : S) (rest : Body) (p q r : Pending) → Carries (PassesOne k x) p q → Carries (Passes (k + size_one x) rest) q r
    → Carries (Passes k (Next x rest)) p r
carries-next k x rest p q r one more steps h =
    let a = one steps h in
    let b = more (steps ++ a.0) a.2 in
    (a.0 ++ b.0, (a.0, b.0, refl, a.1, b.1), subst (λ s. Carried s r) (append_assoc steps a.0 b.0) b.2)

-- ---- where the walk comes

pub reaches-here : (k : ℕ) (x : S) (p : Pending) → Reaches (PassesOne k x) p k x p
reaches-here k x p steps h =
    let w = some_path_one k x in
    ([], w.0, [], subst (PassesOne k x) (sym (append-nil w.0)) w.1, w.1, subst (λ s. Carried s p) (sym (append-nil steps)) h)

-- behind steps that carry it
reaches-behind : (Path Whole : List Step → Type 0) (p q : Pending) (place : ℕ) (x : S) (now : Pending)
    → ((steps : List Step) → Carried steps p → (first : List Step) × Carried (steps ++ first) q × ((path : List Step) → Path path → Whole (first ++ path)))
    → Reaches Path q place x now → Reaches Whole p place x now
reaches-behind Path Whole p q place x now more reaches steps h =
    let f = more steps h in
    let (ahead, own, later, way, stands, held) = reaches (steps ++ f.0) f.1 in (
      f.0 ++ ahead,
      own,
      later,
      subst Whole (sym (append_assoc f.0 ahead (own ++ later))) (f.2 (ahead ++ (own ++ later)) way),
      stands,
      subst (λ s. Carried s now) (append_assoc steps f.0 ahead) held,
    )

-- before further steps
reaches-before : (Path Whole : List Step → Type 0) (p : Pending) (place : ℕ) (x : S) (now : Pending) (last : List Step)
    → ((path : List Step) → Path path → Whole (path ++ last)) → Reaches Path p place x now → Reaches Whole p place x now
reaches-before Path Whole p place x now last whole reaches steps h =
    let (ahead, own, later, way, stands, held) = reaches steps h in (
      ahead,
      own,
      later ++ last,
      subst Whole (append_assoc ahead (own ++ later) last ∙ ap (λ s. ahead ++ s) (append_assoc own later last)) (whole (ahead ++ (own ++ later)) way),
      stands,
      held,
    )

comes_of : (place : ℕ) (x : S) (now : Pending) (k : ℕ) (b : Body) → Reaches (Passes k b) None place x now → Comes place x now k b
comes_of place x now k b reaches =
    let (ahead, own, later, way, stands, held) = reaches [] tt in
    record { before = ahead; own = own; later = later; passes = way; stands = stands; holds = held }

pub somewhere_of : (place : ℕ) (x : S) (now : Pending) (k : ℕ) (b : Body) → Arrives k b None place x now → Somewhere (Comes place x now) k b
somewhere_of place x now k b (inl reaches) = inl (comes_of place x now k b reaches)
somewhere_of place x now k b (inr inside) = inr inside

pub arrives-here : (k : ℕ) (x : S) (p : Pending) → ArrivesOne k x p k x p
arrives-here k x p = inl (reaches-here k x p)

pub arrives-first : (k : ℕ) (e : E) (a b : Body) (p : Pending) (place : ℕ) (x : S) (now : Pending)
    → Arrives (k + 1) a p place x now → ArrivesOne k (If e a b) p place x now
arrives-first k e a b p place x now (inl reaches) =
    inl (reaches-behind (Passes (k + 1) a) (PassesOne k (If e a b)) p p place x now
    (λ steps h. (touch_steps k (touches (If e a b)), carried_touched steps k (touches (If e a b)) p h, λ path way. (path, refl, inl way))) reaches)
arrives-first k e a b p place x now (inr inside) = inr (inl inside)

pub arrives-second : (k : ℕ) (e : E) (a b : Body) (p : Pending) (place : ℕ) (x : S) (now : Pending)
    → Arrives (k + 1 + size a) b p place x now → ArrivesOne k (If e a b) p place x now
arrives-second k e a b p place x now (inl reaches) =
    inl (reaches-behind (Passes (k + 1 + size a) b) (PassesOne k (If e a b)) p p place x now
    (λ steps h. (touch_steps k (touches (If e a b)), carried_touched steps k (touches (If e a b)) p h, λ path way. (path, refl, inr way))) reaches)
arrives-second k e a b p place x now (inr inside) = inr (inr inside)

pub arrives-task : (k : ℕ) (d : List Use) (b : Body) (p : Pending) (place : ℕ) (x : S) (now : Pending)
    → Arrives (k + 1) b None place x now → ArrivesOne k (Task d b) p place x now
arrives-task k d b p place x now arrives = inr (somewhere_of place x now (k + 1) b arrives)

pub arrives-group : (k : ℕ) (o : Operation) (cells : List Cell) (b : Body) (p : Pending) (place : ℕ) (x : S) (now : Pending)
    → Arrives (k + 1) b p place x now → ArrivesOne k (Group o cells b) p place x now
arrives-group k o cells b p place x now (inl reaches) =
    let Inside : List Step → Type 0 = λ path. (inside : List Step) × (path ≡ inside ++ At k Leave ∷ []) × Passes (k + 1) b inside in
    inl (reaches-behind Inside (PassesOne k (Group o cells b)) p p place x now
    (λ steps h. (
      At k (Enter o cells) ∷ [],
      carried_past steps (At k (Enter o cells) ∷ []) p (λ n. refl)
          (of_each (λ d. is_awaited d (At k (Enter o cells) ∷ []) ≡ false) p (λ d. refl)) h,
      λ path way. (way.0, ap (λ s. At k (Enter o cells) ∷ s) way.1, way.2),
    ))
    (reaches-before (Passes (k + 1) b) Inside p place x now (At k Leave ∷ []) (λ path way. (path, refl, way)) reaches))
arrives-group k o cells b p place x now (inr inside) = inr inside

pub arrives-next : (k : ℕ) (y : S) (rest : Body) (p : Pending) (place : ℕ) (x : S) (now : Pending)
    → ArrivesOne k y p place x now → Arrives k (Next y rest) p place x now
arrives-next k y rest p place x now (inl reaches) =
    let w = some_path (k + size_one y) rest in
    inl (reaches-before (PassesOne k y) (Passes k (Next y rest)) p place x now w.0 (λ path way. (path, w.0, refl, way, w.1)) reaches)
arrives-next k y rest p place x now (inr inside) = inr (inl inside)

pub arrives-later : (k : ℕ) (y : S) (rest : Body) (p q : Pending) (place : ℕ) (x : S) (now : Pending)
    → Carries (PassesOne k y) p q → Arrives (k + size_one y) rest q place x now → Arrives k (Next y rest) p place x now
arrives-later k y rest p q place x now carries (inl reaches) =
    inl (reaches-behind (Passes (k + size_one y) rest) (Passes k (Next y rest)) p q place x now
    (λ steps h. let a = carries steps h in (a.0, a.2, λ path way. (a.0, path, refl, a.1, way))) reaches)
arrives-later k y rest p q place x now carries (inr inside) = inr (inr inside)

-- ---- that the statement stands there

stands_at : (place : ℕ) (x : S) (now : Pending) (k : ℕ) (b : Body) → Comes place x now k b → StandsAt place x (λ steps. ⊤) k b
stands_at place x now k b h = record { before = h.before; own = h.own; later = h.later; passes = h.passes; stands = h.stands; holds = tt }

mutual
  in_task_one : (P Q : ℕ → Body → Type 0) → ((k : ℕ) (b : Body) → P k b → Q k b) → (k : ℕ) (x : S) → InTaskOne P k x → InTaskOne Q k x
  in_task_one P Q more k (Set c e) h = absurd h
  in_task_one P Q more k (Fold o c e) h = absurd h
  in_task_one P Q more k (If e a b) (inl h) = inl (in_task P Q more (k + 1) a h)
  in_task_one P Q more k (If e a b) (inr h) = inr (in_task P Q more (k + 1 + size a) b h)
  in_task_one P Q more k (Task d b) (inl h) = inl (more (k + 1) b h)
  in_task_one P Q more k (Task d b) (inr h) = inr (in_task P Q more (k + 1) b h)
  in_task_one P Q more k (Wait w) h = absurd h
  in_task_one P Q more k (Group o cs b) h = in_task P Q more (k + 1) b h

  in_task : (P Q : ℕ → Body → Type 0) → ((k : ℕ) (b : Body) → P k b → Q k b) → (k : ℕ) (b : Body) → InTask P k b → InTask Q k b
  in_task P Q more k End h = absurd h
  in_task P Q more k (Next x rest) (inl h) = inl (in_task_one P Q more k x h)
  in_task P Q more k (Next x rest) (inr h) = inr (in_task P Q more (k + size_one x) rest h)

-- the walk came to it
pub is_at_of : (place : ℕ) (x : S) (now : Pending) (b : Body) → Arrives 1 b None place x now → IsAt place x b
is_at_of place x now b (inl reaches) = inl (stands_at place x now 1 b (comes_of place x now 1 b reaches))
is_at_of place x now b (inr inside) = inr (in_task (Comes place x now) (StandsAt place x (λ steps. ⊤)) (stands_at place x now) 1 b inside)

-- a child that is carried to the end of a body
pub pending_at_end : (k : ℕ) (b : Body) (child : Option Child) → Carries (Passes k b) None (pending_of child)
    → IfSome child (λ c. (path : List Step) × Passes k b path × IsPending path c.place c.decl.now)
pending_at_end k b None carries = tt
pending_at_end k b (Some c) carries = carries [] tt

pub if_err : {A E : Type 0} (r : Result A E) (P Q : E → Type 0) → ((x : E) → P x → Q x) → IfErr r P → IfErr r Q
if_err (Ok x) P Q f h = h
if_err (Err e) P Q f h = f e h
