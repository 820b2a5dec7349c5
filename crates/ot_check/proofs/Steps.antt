-- Steps of paths: what stands open behind several of them.
use Rattle.std.proofs.Common.{◌≡◌, ℕ, zero, suc, ◌+◌, ◌++◌, Bool, true, false, not, ◌&&◌, ◌||◌, List, [], ◌∷◌, refl, sym, ap, subst, inl, inr, ◌∙◌, append_assoc, append-nil}
use Rattle.std.specs.List.{list_any}
use Rattle.std.specs.Prelude.{if◌then◌else◌}
use Rattle.std.proofs.lemmas.List.Folds.{list_any-append}
use Rattle.ot_model.specs.Tree.{S, Set, Fold, If, Task, Wait, Group, Body, End, Next, size, size_one}
use Rattle.ot_model.specs.Cells.{same_fold}
use Rattle.ot_model.specs.declared.expr.Cell.{Cell}
use Rattle.ot_model.specs.declared.fold.Fold.{Fold as Operation}
use Rattle.ot_model.specs.declared.stmt.Use.{Use}
use Rattle.ot_check.specs.Offences.{Touch, Create, Await, Enter, Leave, Step, At, touch_steps, touches, PassesOne, Passes, stays_within, is_wait_for, is_awaited, unawaited_uses, is_open, has_cell}
use Rattle.ot_check.proofs.Bits.{and_one}

-- these steps leave no group that they don't enter
abbrev pub IsClosed : List Step → Type 0
IsClosed path = (n : ℕ) → stays_within n path ≡ true

-- these steps leave as many groups open as there were
abbrev pub IsBalanced : List Step → Type 0
IsBalanced path = (n : ℕ) (later : List Step) → stays_within n (path ++ later) ≡ stays_within n later

pub closed_of : (path : List Step) → IsBalanced path → IsClosed path
closed_of path balanced n = ap (stays_within n) (sym (append-nil path)) ∙ balanced n []

pub within-closed : (path closed : List Step) → IsClosed closed → (n : ℕ) → stays_within n (path ++ closed) ≡ stays_within n path
within-closed [] closed h n = h n
within-closed (At k (Touch u) ∷ path) closed h n = within-closed path closed h n
within-closed (At k (Create d) ∷ path) closed h n = within-closed path closed h n
within-closed (At k (Await w) ∷ path) closed h n = within-closed path closed h n
within-closed (At k (Enter o cs) ∷ path) closed h n = within-closed path closed h (suc n)
within-closed (At k Leave ∷ path) closed h zero = refl
within-closed (At k Leave ∷ path) closed h (suc n) = within-closed path closed h n

bits-unawaited : (t w h g u v : Bool) → ((t && (w && not (h || g))) || (u || v)) ≡ ((((t && not g) && (w && not h)) || u) || v)
bits-unawaited false w h g u v = refl
bits-unawaited true false h true u v = refl
bits-unawaited true false h false u v = refl
bits-unawaited true true true true u v = refl
bits-unawaited true true true false u v = refl
bits-unawaited true true false true u v = refl
bits-unawaited true true false false u v = refl

bits-open : (a w u v : Bool) → ((a && w) || (u || v)) ≡ (((a && w) || u) || v)
bits-open false w u v = refl
bits-open true false u v = refl
bits-open true true u v = refl

bits-out : (a u : Bool) → ((a && false) || u) ≡ u
bits-out false u = refl
bits-out true u = refl

-- whether some child that passes the test is unawaited behind these steps
abbrev pub some_unawaited : (List Use → Bool) → List Step → Bool
some_unawaited test path = list_any test (unawaited_uses path)

some_kept : (test : List Use → Bool) (d : List Use) (children : List (List Use)) (kept : Bool)
    → list_any test (if kept then d ∷ children else children) ≡ ((test d && kept) || list_any test children)
some_kept test d children true = ap (λ b. b || list_any test children) (sym (and_one (test d)))
some_kept test d children false = sym (bits-out (test d) (list_any test children))

-- the child that is created first, or a later one
pub unawaited-created : (test : List Use → Bool) (k : ℕ) (d : List Use) (path : List Step)
    → some_unawaited test (At k (Create d) ∷ path) ≡ ((test d && (stays_within 0 path && not (is_awaited d path))) || some_unawaited test path)
unawaited-created test k d path = some_kept test d (unawaited_uses path) (stays_within 0 path && not (is_awaited d path))

-- a wait that awaits a child, in one of two parts
pub awaited-append : (d : List Use) (one later : List Step) → is_awaited d (one ++ later) ≡ (is_awaited d one || is_awaited d later)
awaited-append d one later = list_any-append (is_wait_for d) one later

-- children that are unawaited behind steps that leave no group: those from before that they don't await, and those made in them
pub unawaited-append : (test : List Use → Bool) (path closed : List Step) → IsClosed closed
    → some_unawaited test (path ++ closed) ≡ (some_unawaited (λ d. test d && not (is_awaited d closed)) path || some_unawaited test closed)
unawaited-append test [] closed h = refl
unawaited-append test (At k (Touch u) ∷ path) closed h = unawaited-append test path closed h
unawaited-append test (At k (Create d) ∷ path) closed h =
    unawaited-created test k d (path ++ closed)
    ∙ ap (λ w. (test d && (w && not (is_awaited d (path ++ closed)))) || some_unawaited test (path ++ closed)) (within-closed path closed h 0)
    ∙ ap (λ b. (test d && (stays_within 0 path && not b)) || some_unawaited test (path ++ closed)) (awaited-append d path closed)
    ∙ ap (λ b. (test d && (stays_within 0 path && not (is_awaited d path || is_awaited d closed))) || b) (unawaited-append test path closed h)
    ∙ bits-unawaited (test d) (stays_within 0 path) (is_awaited d path) (is_awaited d closed) (some_unawaited (λ e. test e && not (is_awaited e closed)) path) (some_unawaited test closed)
    ∙ ap (λ b. b || some_unawaited test closed) (sym (unawaited-created (λ e. test e && not (is_awaited e closed)) k d path))
unawaited-append test (At k (Await w) ∷ path) closed h = unawaited-append test path closed h
unawaited-append test (At k (Enter o cs) ∷ path) closed h = unawaited-append test path closed h
unawaited-append test (At k Leave ∷ path) closed h = unawaited-append test path closed h

pub open-append : (o : Operation) (c : Cell) (path closed : List Step) → IsClosed closed → is_open (path ++ closed) o c ≡ (is_open path o c || is_open closed o c)
open-append o c [] closed h = refl
open-append o c (At k (Touch u) ∷ path) closed h = open-append o c path closed h
open-append o c (At k (Create d) ∷ path) closed h = open-append o c path closed h
open-append o c (At k (Await w) ∷ path) closed h = open-append o c path closed h
open-append o c (At k (Enter by cs) ∷ path) closed h =
    ap (λ w. ((same_fold by o && has_cell cs c) && w) || is_open (path ++ closed) o c) (within-closed path closed h 0)
    ∙ ap (λ b. ((same_fold by o && has_cell cs c) && stays_within 0 path) || b) (open-append o c path closed h)
    ∙ bits-open (same_fold by o && has_cell cs c) (stays_within 0 path) (is_open path o c) (is_open closed o c)
open-append o c (At k Leave ∷ path) closed h = open-append o c path closed h

-- ---- touches

pub touched-balanced : (k : ℕ) (uses : List Use) → IsBalanced (touch_steps k uses)
touched-balanced k [] n later = refl
touched-balanced k (u ∷ uses) n later = touched-balanced k uses n later

pub touched-awaited : (d : List Use) (k : ℕ) (uses : List Use) → is_awaited d (touch_steps k uses) ≡ false
touched-awaited d k [] = refl
touched-awaited d k (u ∷ uses) = touched-awaited d k uses

pub touched-unawaited : (test : List Use → Bool) (k : ℕ) (uses : List Use) (later : List Step)
    → some_unawaited test (touch_steps k uses ++ later) ≡ some_unawaited test later
touched-unawaited test k [] later = refl
touched-unawaited test k (u ∷ uses) later = touched-unawaited test k uses later

pub touched-open : (o : Operation) (c : Cell) (k : ℕ) (uses : List Use) (later : List Step) → is_open (touch_steps k uses ++ later) o c ≡ is_open later o c
touched-open o c k [] later = refl
touched-open o c k (u ∷ uses) later = touched-open o c k uses later

-- ---- paths

both-balanced : (one later : List Step) → IsBalanced one → IsBalanced later → IsBalanced (one ++ later)
both-balanced one later h g n end = ap (stays_within n) (append_assoc one later end) ∙ h n (later ++ end) ∙ g n end

mutual
  pub passes_one-balanced : (k : ℕ) (x : S) (path : List Step) → PassesOne k x path → IsBalanced path
  passes_one-balanced k (Set c e) path is = subst IsBalanced (sym is) (touched-balanced k (touches (Set c e)))
  passes_one-balanced k (Fold o c e) path is = subst IsBalanced (sym is) (touched-balanced k (touches (Fold o c e)))
  passes_one-balanced k (If e a b) path (inside, is, inl h) =
      subst IsBalanced (sym is) (both-balanced (touch_steps k (touches (If e a b))) inside (touched-balanced k (touches (If e a b))) (passes-balanced (k + 1) a inside h))
  passes_one-balanced k (If e a b) path (inside, is, inr h) =
      subst IsBalanced (sym is) (both-balanced (touch_steps k (touches (If e a b))) inside (touched-balanced k (touches (If e a b))) (passes-balanced (k + 1 + size a) b inside h))
  passes_one-balanced k (Task d b) path is = subst IsBalanced (sym is) (λ n later. refl)
  passes_one-balanced k (Wait w) path is = subst IsBalanced (sym is) (λ n later. refl)
  passes_one-balanced k (Group o cs b) path (inside, is, h) =
      subst IsBalanced (sym is) (λ n later. ap (stays_within (suc n)) (append_assoc inside (At k Leave ∷ []) later)
      ∙ passes-balanced (k + 1) b inside h (suc n) (At k Leave ∷ later))

  pub passes-balanced : (k : ℕ) (b : Body) (path : List Step) → Passes k b path → IsBalanced path
  passes-balanced k End path is = subst IsBalanced (sym is) (λ n later. refl)
  passes-balanced k (Next x rest) path (one, later, is, h, g) =
      subst IsBalanced (sym is) (both-balanced one later (passes_one-balanced k x one h) (passes-balanced (k + size_one x) rest later g))

pub passes-closed : (k : ℕ) (b : Body) (path : List Step) → Passes k b path → IsClosed path
passes-closed k b path h = closed_of path (passes-balanced k b path h)

pub passes_one-closed : (k : ℕ) (x : S) (path : List Step) → PassesOne k x path → IsClosed path
passes_one-closed k x path h = closed_of path (passes_one-balanced k x path h)

-- a child made on a path is not unawaited behind the end of a group around it
mutual
  unawaited-left_one : (test : List Use → Bool) (k : ℕ) (x : S) (path : List Step) → PassesOne k x path → (later : List Step)
      → stays_within 0 later ≡ false → some_unawaited test (path ++ later) ≡ some_unawaited test later
  unawaited-left_one test k (Set c e) path is later left =
      subst (λ p. some_unawaited test (p ++ later) ≡ some_unawaited test later) (sym is) (touched-unawaited test k (touches (Set c e)) later)
  unawaited-left_one test k (Fold o c e) path is later left =
      subst (λ p. some_unawaited test (p ++ later) ≡ some_unawaited test later) (sym is) (touched-unawaited test k (touches (Fold o c e)) later)
  unawaited-left_one test k (If e a b) path (inside, is, inl h) later left =
      subst (λ p. some_unawaited test (p ++ later) ≡ some_unawaited test later) (sym is)
      (ap (some_unawaited test) (append_assoc (touch_steps k (touches (If e a b))) inside later)
      ∙ touched-unawaited test k (touches (If e a b)) (inside ++ later) ∙ unawaited-left test (k + 1) a inside h later left)
  unawaited-left_one test k (If e a b) path (inside, is, inr h) later left =
      subst (λ p. some_unawaited test (p ++ later) ≡ some_unawaited test later) (sym is)
      (ap (some_unawaited test) (append_assoc (touch_steps k (touches (If e a b))) inside later)
      ∙ touched-unawaited test k (touches (If e a b)) (inside ++ later) ∙ unawaited-left test (k + 1 + size a) b inside h later left)
  unawaited-left_one test k (Task d b) path is later left =
      subst (λ p. some_unawaited test (p ++ later) ≡ some_unawaited test later) (sym is)
      (unawaited-created test k d later
      ∙ ap (λ w. (test d && (w && not (is_awaited d later))) || some_unawaited test later) left ∙ bits-out (test d) (some_unawaited test later))
  unawaited-left_one test k (Wait w) path is later left = subst (λ p. some_unawaited test (p ++ later) ≡ some_unawaited test later) (sym is) refl
  unawaited-left_one test k (Group o cs b) path (inside, is, h) later left =
      subst (λ p. some_unawaited test (p ++ later) ≡ some_unawaited test later) (sym is)
      (ap (some_unawaited test) (append_assoc inside (At k Leave ∷ []) later) ∙ unawaited-left test (k + 1) b inside h (At k Leave ∷ later) refl)

  unawaited-left : (test : List Use → Bool) (k : ℕ) (b : Body) (path : List Step) → Passes k b path → (later : List Step)
      → stays_within 0 later ≡ false → some_unawaited test (path ++ later) ≡ some_unawaited test later
  unawaited-left test k End path is later left = subst (λ p. some_unawaited test (p ++ later) ≡ some_unawaited test later) (sym is) refl
  unawaited-left test k (Next x rest) path (one, behind, is, h, g) later left =
      subst (λ p. some_unawaited test (p ++ later) ≡ some_unawaited test later) (sym is)
      (ap (some_unawaited test) (append_assoc one behind later)
      ∙ unawaited-left_one test k x one h (behind ++ later) (passes-balanced (k + size_one x) rest behind g 0 later ∙ left)
      ∙ unawaited-left test (k + size_one x) rest behind g later left)

-- none behind a group was made in it
pub unawaited-group : (test : List Use → Bool) (k : ℕ) (o : Operation) (cs : List Cell) (b : Body) (inside : List Step) → Passes (k + 1) b inside
    → some_unawaited test (At k (Enter o cs) ∷ (inside ++ At k Leave ∷ [])) ≡ false
unawaited-group test k o cs b inside h = unawaited-left test (k + 1) b inside h (At k Leave ∷ []) refl

-- a path leaves no group open
mutual
  pub passes_one-open : (o : Operation) (c : Cell) (k : ℕ) (x : S) (path : List Step) → PassesOne k x path → (later : List Step)
      → is_open (path ++ later) o c ≡ is_open later o c
  passes_one-open o c k (Set d e) path is later =
      subst (λ p. is_open (p ++ later) o c ≡ is_open later o c) (sym is) (touched-open o c k (touches (Set d e)) later)
  passes_one-open o c k (Fold by d e) path is later =
      subst (λ p. is_open (p ++ later) o c ≡ is_open later o c) (sym is) (touched-open o c k (touches (Fold by d e)) later)
  passes_one-open o c k (If e a b) path (inside, is, inl h) later =
      subst (λ p. is_open (p ++ later) o c ≡ is_open later o c) (sym is)
      (ap (λ p. is_open p o c) (append_assoc (touch_steps k (touches (If e a b))) inside later)
      ∙ touched-open o c k (touches (If e a b)) (inside ++ later) ∙ passes-open o c (k + 1) a inside h later)
  passes_one-open o c k (If e a b) path (inside, is, inr h) later =
      subst (λ p. is_open (p ++ later) o c ≡ is_open later o c) (sym is)
      (ap (λ p. is_open p o c) (append_assoc (touch_steps k (touches (If e a b))) inside later)
      ∙ touched-open o c k (touches (If e a b)) (inside ++ later) ∙ passes-open o c (k + 1 + size a) b inside h later)
  passes_one-open o c k (Task d b) path is later = subst (λ p. is_open (p ++ later) o c ≡ is_open later o c) (sym is) refl
  passes_one-open o c k (Wait w) path is later = subst (λ p. is_open (p ++ later) o c ≡ is_open later o c) (sym is) refl
  passes_one-open o c k (Group by cs b) path (inside, is, h) later =
      subst (λ p. is_open (p ++ later) o c ≡ is_open later o c) (sym is)
      (ap (λ p. ((same_fold by o && has_cell cs c) && stays_within 0 p) || is_open p o c) (append_assoc inside (At k Leave ∷ []) later)
      ∙ ap (λ w. ((same_fold by o && has_cell cs c) && w) || is_open (inside ++ At k Leave ∷ later) o c) (passes-balanced (k + 1) b inside h 0 (At k Leave ∷ later))
      ∙ bits-out (same_fold by o && has_cell cs c) (is_open (inside ++ At k Leave ∷ later) o c)
      ∙ passes-open o c (k + 1) b inside h (At k Leave ∷ later))

  pub passes-open : (o : Operation) (c : Cell) (k : ℕ) (b : Body) (path : List Step) → Passes k b path → (later : List Step)
      → is_open (path ++ later) o c ≡ is_open later o c
  passes-open o c k End path is later = subst (λ p. is_open (p ++ later) o c ≡ is_open later o c) (sym is) refl
  passes-open o c k (Next x rest) path (one, behind, is, h, g) later =
      subst (λ p. is_open (p ++ later) o c ≡ is_open later o c) (sym is)
      (ap (λ p. is_open p o c) (append_assoc one behind later) ∙ passes_one-open o c k x one h (behind ++ later) ∙ passes-open o c (k + size_one x) rest behind g later)
