-- Programs of the first profile offend where they did.
use Rattle.std.proofs.Common.{◌≡◌, ℕ, zero, suc, ◌+◌, ◌++◌, Bool, true, false, not, ◌&&◌, ◌||◌, List, [], ◌∷◌, map, refl, sym, ap, ◌∙◌, inl, inr, subst, true≢false}
use Rattle.std.specs.Prelude.{if◌then◌else◌, drop, Option, Some, None}
use Rattle.std.specs.List.{list_any}
use Rattle.std.proofs.lemmas.List.{map-append}
use Rattle.ot_model.specs.Cells.{same_cell, conflicts, is_fold, same_fold}
use Rattle.ot_model.specs.Tree.{cells_named}
use Rattle.ot_model.specs.declared.expr.Cell.{Cell}
use Rattle.ot_model.specs.declared.fold.Fold.{Fold as Operation}
use Rattle.ot_model.specs.declared.fold.Fold.TheVariants.{Plus, Times, And, Or, Xor, Min, Max}
use Rattle.ot_model.specs.declared.stmt.Mode.TheVariants.{Writes, Folds}
use Rattle.ot_model.specs.declared.stmt.Use.{Use}
use Rattle.ot_law_profile1.specs.Tree.{Mode1, Reads1, Writes1, Adds1, Use1, conflicts1, is_adds1, S1, Set1, Add1, If1, Task1, Wait1, Group1, Body1, End1, Next1, size1, size_one1}
use Rattle.ot_law_profile1.specs.Upward.{up_mode, up_use, up_uses, up_one, up, up_mark, up_step, up_path}
use Rattle.ot_law_profile1.proofs.SerialLemmas.{any-map, any-same, size-up, size_one-up}
use Rattle.ot_check.specs.Offences.{Mark, Touch, Enter, Leave, Step, At, use_as, touches, touch_steps, PassesOne, Passes, has_cell, covers, folds_by, Declared, allows, folds_to, exceeds, opened_by_any, misfits_as, misfits, clashes, stays_within, is_awaited, unawaited_uses, is_open, breaks, OnPath, CanEndWithChildren, InTasksOfOne, InTasks, Offends, IsFirstOf}
use Rattle.ot_check.specs.declared.fault.Offence.{Offence}
use Rattle.ot_check.specs.declared.fault.Offence.TheVariants.{NotDeclared, ChildBeyond, ReductionMisuse, ConflictsWithChild, EndsWithChildren}
use Rattle.ot_law_profile1.specs.Offences.{Mark1, Touch1, Create1, Await1, Enter1, Leave1, Step1, At1, use_as1, touches1, touched1, PassesOne1, Passes1, covers1, Declared1, allows1, adds_to1, exceeds1, misfits1, clashes1, stays_within1, has_wait1, unawaited1, is_open1, breaks1, OnPath1, CanEndWithChildren1, InTasksOfOne1, InTasks1, Offends1}

-- ---- lists and tests

false-and : (b : Bool) → false ≡ (b && false)
false-and true = refl
false-and false = refl

and-or : (a b c d : Bool) → ((a && b && c) || (a && d)) ≡ (a && ((b && c) || d))
and-or true b c d = refl
and-or false b c d = refl

or-nothing : (b : Bool) → (b || false) ≡ b
or-nothing true = refl
or-nothing false = refl

-- ---- touches

up-map : (m : Mode1) (cs : List Cell) → map up_use (map (use_as1 m) cs) ≡ map (use_as (up_mode m)) cs
up-map m [] = refl
up-map m (c ∷ cs) = ap (λ us. use_as (up_mode m) c ∷ us) (up-map m cs)

touches-up : (x : S1) → map up_use (touches1 x) ≡ touches (up_one x)
touches-up (Set1 c e) = map-append up_use (map (use_as1 Reads1) (cells_named e)) (use_as1 Writes1 c ∷ []) ∙ ap (λ us. us ++ use_as Writes c ∷ []) (up-map Reads1 (cells_named e))
touches-up (Add1 c e) = map-append up_use (map (use_as1 Reads1) (cells_named e)) (use_as1 Adds1 c ∷ []) ∙ ap (λ us. us ++ use_as (Folds Plus) c ∷ []) (up-map Reads1 (cells_named e))
touches-up (If1 e a b) = up-map Reads1 (cells_named e)
touches-up (Task1 d b) = refl
touches-up Wait1 = refl
touches-up (Group1 cs b) = refl

up-touched : (k : ℕ) (us : List Use1) → up_path (touched1 k us) ≡ touch_steps k (map up_use us)
up-touched k [] = refl
up-touched k (u ∷ us) = ap (λ p. At k (Touch (up_use u)) ∷ p) (up-touched k us)

touched-up : (k : ℕ) (x : S1) → up_path (touched1 k (touches1 x)) ≡ touch_steps k (touches (up_one x))
touched-up k x = up-touched k (touches1 x) ∙ ap (touch_steps k) (touches-up x)

-- ---- paths

mutual
  up-passes_one : (k : ℕ) (x : S1) (path : List Step1) → PassesOne1 k x path → PassesOne k (up_one x) (up_path path)
  up-passes_one k (Set1 c e) path is = ap up_path is ∙ touched-up k (Set1 c e)
  up-passes_one k (Add1 c e) path is = ap up_path is ∙ touched-up k (Add1 c e)
  up-passes_one k (If1 e a b) path (inside, is, inl h) =
      (up_path inside, ap up_path is ∙ map-append up_step (touched1 k (touches1 (If1 e a b))) inside ∙ ap (λ p. p ++ up_path inside) (touched-up k (If1 e a b)), inl (up-passes (k + 1) a inside h))
  up-passes_one k (If1 e a b) path (inside, is, inr h) = (
    up_path inside,
    ap up_path is ∙ map-append up_step (touched1 k (touches1 (If1 e a b))) inside ∙ ap (λ p. p ++ up_path inside) (touched-up k (If1 e a b)),
    inr (subst (λ n. Passes (k + 1 + n) (up b) (up_path inside)) (sym (size-up a)) (up-passes (k + 1 + size1 a) b inside h)),
  )
  up-passes_one k (Task1 d b) path is = ap up_path is
  up-passes_one k Wait1 path is = ap up_path is
  up-passes_one k (Group1 cs b) path (inside, is, h) =
      (up_path inside, ap up_path is ∙ ap (λ p. At k (Enter Plus cs) ∷ p) (map-append up_step inside (At1 k Leave1 ∷ [])), up-passes (k + 1) b inside h)

  pub up-passes : (k : ℕ) (b : Body1) (path : List Step1) → Passes1 k b path → Passes k (up b) (up_path path)
  up-passes k End1 path is = ap up_path is
  up-passes k (Next1 x rest) path (one, later, is, h, g) = (
    up_path one,
    up_path later,
    ap up_path is ∙ map-append up_step one later,
    up-passes_one k x one h,
    subst (λ n. Passes (k + n) (up rest) (up_path later)) (sym (size_one-up x)) (up-passes (k + size_one1 x) rest later g),
  )

mutual
  passes_one-up : (k : ℕ) (x : S1) (path : List Step) → PassesOne k (up_one x) path → (old : List Step1) × PassesOne1 k x old × (path ≡ up_path old)
  passes_one-up k (Set1 c e) path is = (touched1 k (touches1 (Set1 c e)), refl, is ∙ sym (touched-up k (Set1 c e)))
  passes_one-up k (Add1 c e) path is = (touched1 k (touches1 (Add1 c e)), refl, is ∙ sym (touched-up k (Add1 c e)))
  passes_one-up k (If1 e a b) path (inside, is, inl h) = let p = passes-up (k + 1) a inside h in (
    touched1 k (touches1 (If1 e a b)) ++ p.0,
    (p.0, refl, inl p.1),
    is ∙ ap (λ q. q ++ inside) (sym (touched-up k (If1 e a b))) ∙ ap (λ q. up_path (touched1 k (touches1 (If1 e a b))) ++ q) p.2 ∙ sym (map-append up_step (touched1 k (touches1 (If1 e a b))) p.0),
  )
  passes_one-up k (If1 e a b) path (inside, is, inr h) = let p = passes-up (k + 1 + size1 a) b inside (subst (λ n. Passes (k + 1 + n) (up b) inside) (size-up a) h) in (
    touched1 k (touches1 (If1 e a b)) ++ p.0,
    (p.0, refl, inr p.1),
    is ∙ ap (λ q. q ++ inside) (sym (touched-up k (If1 e a b))) ∙ ap (λ q. up_path (touched1 k (touches1 (If1 e a b))) ++ q) p.2 ∙ sym (map-append up_step (touched1 k (touches1 (If1 e a b))) p.0),
  )
  passes_one-up k (Task1 d b) path is = (At1 k (Create1 d) ∷ [], refl, is)
  passes_one-up k Wait1 path is = (At1 k Await1 ∷ [], refl, is)
  passes_one-up k (Group1 cs b) path (inside, is, h) = let p = passes-up (k + 1) b inside h in
      (At1 k (Enter1 cs) ∷ (p.0 ++ At1 k Leave1 ∷ []), (p.0, refl, p.1), is ∙ ap (λ q. At k (Enter Plus cs) ∷ (q ++ At k Leave ∷ [])) p.2 ∙ ap (λ q. At k (Enter Plus cs) ∷ q) (sym (map-append up_step p.0 (At1 k Leave1 ∷ []))))

  pub passes-up : (k : ℕ) (b : Body1) (path : List Step) → Passes k (up b) path → (old : List Step1) × Passes1 k b old × (path ≡ up_path old)
  passes-up k End1 path is = ([], refl, is)
  passes-up k (Next1 x rest) path (one, later, is, h, g) =
      let p = passes_one-up k x one h in
      let q = passes-up (k + size_one1 x) rest later (subst (λ n. Passes (k + n) (up rest) later) (size_one-up x) g) in
      (p.0 ++ q.0, (p.0, q.0, refl, p.1, q.1), is ∙ ap (λ r. r ++ later) p.2 ∙ ap (λ r. up_path p.0 ++ r) q.2 ∙ sym (map-append up_step p.0 q.0))

-- ---- what is unawaited

within-up : (n : ℕ) (path : List Step1) → stays_within n (up_path path) ≡ stays_within1 n path
within-up n [] = refl
within-up n (At1 k (Touch1 u) ∷ path) = within-up n path
within-up n (At1 k (Create1 d) ∷ path) = within-up n path
within-up n (At1 k Await1 ∷ path) = within-up n path
within-up n (At1 k (Enter1 cs) ∷ path) = within-up (suc n) path
within-up zero (At1 k Leave1 ∷ path) = refl
within-up (suc n) (At1 k Leave1 ∷ path) = within-up n path

awaited-up : (d : List Use) (path : List Step1) → is_awaited d (up_path path) ≡ has_wait1 path
awaited-up d [] = refl
awaited-up d (At1 k (Touch1 u) ∷ path) = awaited-up d path
awaited-up d (At1 k (Create1 e) ∷ path) = awaited-up d path
awaited-up d (At1 k Await1 ∷ path) = refl
awaited-up d (At1 k (Enter1 cs) ∷ path) = awaited-up d path
awaited-up d (At1 k Leave1 ∷ path) = awaited-up d path

kept-up : (b : Bool) (d : List Use1) (ds : List (List Use1)) → map up_uses (if b then d ∷ ds else ds) ≡ (if b then up_uses d ∷ map up_uses ds else map up_uses ds)
kept-up true d ds = refl
kept-up false d ds = refl

unawaited-up : (path : List Step1) → unawaited_uses (up_path path) ≡ map up_uses (unawaited1 path)
unawaited-up [] = refl
unawaited-up (At1 k (Touch1 u) ∷ path) = unawaited-up path
unawaited-up (At1 k (Create1 d) ∷ path) =
    ap (λ w. if w && not (is_awaited (up_uses d) (up_path path)) then up_uses d ∷ unawaited_uses (up_path path) else unawaited_uses (up_path path)) (within-up 0 path)
    ∙ ap (λ a. if stays_within1 0 path && not a then up_uses d ∷ unawaited_uses (up_path path) else unawaited_uses (up_path path)) (awaited-up (up_uses d) path)
    ∙ ap (λ ds. if stays_within1 0 path && not (has_wait1 path) then up_uses d ∷ ds else ds) (unawaited-up path)
    ∙ sym (kept-up (stays_within1 0 path && not (has_wait1 path)) d (unawaited1 path))
unawaited-up (At1 k Await1 ∷ path) = unawaited-up path
unawaited-up (At1 k (Enter1 cs) ∷ path) = unawaited-up path
unawaited-up (At1 k Leave1 ∷ path) = unawaited-up path

abbrev some_child : List (List Use) → Bool
some_child [] = false
some_child (d ∷ ds) = true

none-up : (ds : List (List Use1)) → map up_uses ds ≡ [] → ds ≡ []
none-up [] h = refl
none-up (d ∷ ds) h = absurd (true≢false (ap some_child h))

-- ---- what stands open

-- groups by `+` alone are open
open-up : (path : List Step1) (o : Operation) (c : Cell) → is_open (up_path path) o c ≡ (same_fold Plus o && is_open1 path c)
open-up [] o c = false-and (same_fold Plus o)
open-up (At1 k (Touch1 u) ∷ path) o c = open-up path o c
open-up (At1 k (Create1 d) ∷ path) o c = open-up path o c
open-up (At1 k Await1 ∷ path) o c = open-up path o c
open-up (At1 k (Enter1 cs) ∷ path) o c =
    ap (λ w. (same_fold Plus o && has_cell cs c && w) || is_open (up_path path) o c) (within-up 0 path)
    ∙ ap (λ w. (same_fold Plus o && has_cell cs c && stays_within1 0 path) || w) (open-up path o c)
    ∙ and-or (same_fold Plus o) (has_cell cs c) (stays_within1 0 path) (is_open1 path c)
open-up (At1 k Leave1 ∷ path) o c = open-up path o c

plus_open-up : (path : List Step1) (c : Cell) → is_open (up_path path) Plus c ≡ is_open1 path c
plus_open-up path c = open-up path Plus c

any_open-up : (path : List Step1) (c : Cell) → opened_by_any (is_open (up_path path)) c ≡ is_open1 path c
unfolding opened_by_any
any_open-up path c = any-same (λ o. is_open (up_path path) o c) (λ o. same_fold Plus o && is_open1 path c) (λ o. open-up path o c) (Plus ∷ Times ∷ And ∷ Or ∷ Xor ∷ Min ∷ Max ∷ []) ∙ or-nothing (is_open1 path c)

-- ---- what a mark breaks

abbrev up_own : Declared1 → Declared
up_own None = None
up_own (Some uses) = Some (up_uses uses)

covers-up : (m n : Mode1) → covers (up_mode m) (up_mode n) ≡ covers1 m n
covers-up Reads1 Reads1 = refl
covers-up Reads1 Writes1 = refl
covers-up Reads1 Adds1 = refl
covers-up Writes1 n = refl
covers-up Adds1 Reads1 = refl
covers-up Adds1 Writes1 = refl
covers-up Adds1 Adds1 = refl

conflicts-up : (m n : Mode1) → conflicts (up_mode m) (up_mode n) ≡ conflicts1 m n
conflicts-up Reads1 Reads1 = refl
conflicts-up Reads1 Writes1 = refl
conflicts-up Reads1 Adds1 = refl
conflicts-up Writes1 Reads1 = refl
conflicts-up Writes1 Writes1 = refl
conflicts-up Writes1 Adds1 = refl
conflicts-up Adds1 Reads1 = refl
conflicts-up Adds1 Writes1 = refl
conflicts-up Adds1 Adds1 = refl

fold-up : (m : Mode1) → is_fold (up_mode m) ≡ is_adds1 m
fold-up Reads1 = refl
fold-up Writes1 = refl
fold-up Adds1 = refl

by_plus-up : (m : Mode1) → folds_by Plus (up_mode m) ≡ is_adds1 m
by_plus-up Reads1 = refl
by_plus-up Writes1 = refl
by_plus-up Adds1 = refl

allows-up : (own : Declared1) (u : Use1) → allows (up_own own) (up_use u) ≡ allows1 own u
allows-up None u = refl
allows-up (Some uses) u =
    any-map up_use (λ d. same_cell d.cell u.cell && covers d.mode (up_mode u.mode)) (λ d. same_cell d.cell u.cell && covers1 d.mode u.mode)
    (λ d. ap (λ w. same_cell d.cell u.cell && w) (covers-up d.mode u.mode)) uses

folds_to-up : (own : Declared1) (c : Cell) → folds_to (up_own own) Plus c ≡ adds_to1 own c
folds_to-up None c = refl
folds_to-up (Some uses) c =
    any-map up_use (λ d. same_cell d.cell c && folds_by Plus d.mode) (λ d. same_cell d.cell c && is_adds1 d.mode)
    (λ d. ap (λ w. same_cell d.cell c && w) (by_plus-up d.mode)) uses

exceeds-up : (own : Declared1) (u : Use1) → exceeds (up_own own) (up_use u) ≡ exceeds1 own u
exceeds-up own u = ap (λ w. not w && not (allows (up_own own) (up_use u))) (fold-up u.mode) ∙ ap (λ w. not (is_adds1 u.mode) && not w) (allows-up own u)

misfits_as-up : (own : Declared1) (path : List Step1) (m : Mode1) (c : Cell) → misfits_as (up_mode m) (up_own own) (is_open (up_path path)) c ≡ misfits1 own (is_open1 path) (use_as1 m c)
misfits_as-up own path Reads1 c = any_open-up path c
misfits_as-up own path Writes1 c = any_open-up path c
misfits_as-up own path Adds1 c =
    ap (λ w. not w && not (is_open (up_path path) Plus c)) (folds_to-up own c) ∙ ap (λ w. not (adds_to1 own c) && not w) (plus_open-up path c)

clashes-up : (u : Use1) (child : List Use1) → clashes (up_use u) (up_uses child) ≡ clashes1 u child
clashes-up u child =
    any-map up_use (λ d. same_cell d.cell u.cell && conflicts d.mode (up_mode u.mode)) (λ d. same_cell d.cell u.cell && conflicts1 d.mode u.mode)
    (λ d. ap (λ w. same_cell d.cell u.cell && w) (conflicts-up d.mode u.mode)) child

clash-up : (u : Use1) (path : List Step1) → list_any (clashes (up_use u)) (unawaited_uses (up_path path)) ≡ list_any (clashes1 u) (unawaited1 path)
clash-up u path = ap (list_any (clashes (up_use u))) (unawaited-up path) ∙ any-map up_uses (clashes (up_use u)) (clashes1 u) (clashes-up u) (unawaited1 path)

breaks-up : (own : Declared1) (path : List Step1) (mark : Mark1) (offence : Offence)
    → breaks (up_own own) (is_open (up_path path)) (unawaited_uses (up_path path)) (up_mark mark) offence ≡ breaks1 own (is_open1 path) (unawaited1 path) mark offence
breaks-up own path (Touch1 u) NotDeclared = ap not (allows-up own u)
breaks-up own path (Touch1 u) ChildBeyond = refl
breaks-up own path (Touch1 u) ReductionMisuse = any_open-up path u.cell
breaks-up own path (Touch1 u) ConflictsWithChild = clash-up u path
breaks-up own path (Touch1 u) EndsWithChildren = refl
breaks-up own path (Create1 d) NotDeclared = refl
breaks-up own path (Create1 d) ChildBeyond = any-map up_use (exceeds (up_own own)) (exceeds1 own) (exceeds-up own) d
breaks-up own path (Create1 d) ReductionMisuse =
    any-map up_use (misfits (up_own own) (is_open (up_path path))) (misfits1 own (is_open1 path)) (λ u. misfits_as-up own path u.mode u.cell) d
breaks-up own path (Create1 d) ConflictsWithChild = refl
breaks-up own path (Create1 d) EndsWithChildren = refl
breaks-up own path Await1 offence = refl
breaks-up own path (Enter1 cs) NotDeclared = refl
breaks-up own path (Enter1 cs) ChildBeyond = refl
breaks-up own path (Enter1 cs) ReductionMisuse =
    any-same (λ c. not (allows (up_own own) (use_as Writes c)) || opened_by_any (is_open (up_path path)) c) (λ c. not (allows1 own (use_as1 Writes1 c)) || is_open1 path c)
    (λ c. ap (λ w. not w || opened_by_any (is_open (up_path path)) c) (allows-up own (use_as1 Writes1 c)) ∙ ap (λ w. not (allows1 own (use_as1 Writes1 c)) || w) (any_open-up path c)) cs
breaks-up own path (Enter1 cs) ConflictsWithChild =
    any-same (λ c. list_any (clashes (use_as Writes c)) (unawaited_uses (up_path path))) (λ c. list_any (clashes1 (use_as1 Writes1 c)) (unawaited1 path)) (λ c. clash-up (use_as1 Writes1 c) path) cs
breaks-up own path (Enter1 cs) EndsWithChildren = refl
breaks-up own path Leave1 offence = refl

-- ---- offences on paths

-- a step within a path that comes from an old one comes from an old step
record Split (before : List Step) (s : Step) (later : List Step) (old : List Step1) : Type 0 where
  before1 : List Step1
  step1 : Step1
  later1 : List Step1
  whole : old ≡ before1 ++ step1 ∷ later1
  is_before : before ≡ up_path before1
  is_step : s ≡ up_step step1

abbrev head_or : Step → List Step → Step
head_or s [] = s
head_or s (t ∷ path) = t

abbrev some_step : List Step → Bool
some_step [] = false
some_step (t ∷ path) = true

split-up : (before : List Step) (s : Step) (later : List Step) (old : List Step1) → before ++ s ∷ later ≡ up_path old → Split before s later old
split-up [] s later [] is = absurd (true≢false (ap some_step is))
split-up [] s later (t ∷ old) is = record { before1 = []; step1 = t; later1 = old; whole = refl; is_before = refl; is_step = ap (head_or s) is }
split-up (x ∷ before) s later [] is = absurd (true≢false (ap some_step is))
split-up (x ∷ before) s later (t ∷ old) is = let p = split-up before s later old (ap (drop 1) is) in
    record {
      before1 = t ∷ p.before1;
      step1 = p.step1;
      later1 = p.later1;
      whole = ap (λ q. t ∷ q) p.whole;
      is_before = ap (λ y. y ∷ before) (ap (head_or s) is) ∙ ap (λ q. up_step t ∷ q) p.is_before;
      is_step = p.is_step;
    }

abbrev place_of : Step → ℕ
place_of (At k mark) = k

abbrev mark_of : Step → Mark
mark_of (At k mark) = mark

abbrev old_place : Step1 → ℕ
old_place (At1 k mark) = k

abbrev old_mark : Step1 → Mark1
old_mark (At1 k mark) = mark

old-place : (s : Step1) → place_of (up_step s) ≡ old_place s
old-place (At1 k mark) = refl

old-mark : (s : Step1) → mark_of (up_step s) ≡ up_mark (old_mark s)
old-mark (At1 k mark) = refl

old-step : (s : Step1) → At1 (old_place s) (old_mark s) ≡ s
old-step (At1 k mark) = refl

on_path-up : (k : ℕ) (b : Body1) (own : Declared1) (place : ℕ) (offence : Offence) → OnPath1 k b own place offence → OnPath k (up b) (up_own own) place offence
on_path-up k b own place offence (before, later, mark, way, h) = (
  up_path before,
  up_path later,
  up_mark mark,
  subst (Passes k (up b)) (map-append up_step before (At1 place mark ∷ later)) (up-passes k b (before ++ At1 place mark ∷ later) way),
  breaks-up own before mark offence ∙ h,
)

on_path-old : (k : ℕ) (b : Body1) (own : Declared1) (place : ℕ) (offence : Offence) → OnPath k (up b) (up_own own) place offence → OnPath1 k b own place offence
on_path-old k b own place offence (before, later, mark, way, h) =
    let q = passes-up k b (before ++ At place mark ∷ later) way in
    let p = split-up before (At place mark) later q.0 q.2 in
    let is_place : place ≡ old_place p.step1 = ap place_of p.is_step ∙ old-place p.step1 in
    let is_mark : mark ≡ up_mark (old_mark p.step1) = ap mark_of p.is_step ∙ old-mark p.step1 in
    let step : p.step1 ≡ At1 place (old_mark p.step1) = sym (old-step p.step1) ∙ ap (λ k. At1 k (old_mark p.step1)) (sym is_place) in (
      p.before1,
      p.later1,
      old_mark p.step1,
      subst (Passes1 k b) (p.whole ∙ ap (λ s. p.before1 ++ s ∷ p.later1) step) q.1,
      sym (breaks-up own p.before1 (old_mark p.step1) offence)
          ∙ ap (λ path. breaks (up_own own) (is_open path) (unawaited_uses path) (up_mark (old_mark p.step1)) offence) (sym p.is_before)
          ∙ ap (λ m. breaks (up_own own) (is_open before) (unawaited_uses before) m offence) (sym is_mark) ∙ h,
    )

-- ---- offences in tasks

ends-up : (k : ℕ) (b : Body1) → CanEndWithChildren1 k b → CanEndWithChildren k (up b)
ends-up k b (path, way, some) = (up_path path, up-passes k b path way, λ none. some (none-up (unawaited1 path) (sym (unawaited-up path) ∙ none)))

ends-old : (k : ℕ) (b : Body1) → CanEndWithChildren k (up b) → CanEndWithChildren1 k b
ends-old k b (path, way, some) = let q = passes-up k b path way in
    (q.0, q.1, λ none. some (ap unawaited_uses q.2 ∙ unawaited-up q.0 ∙ ap (map up_uses) none))

mutual
  in_one-up : (k : ℕ) (x : S1) (place : ℕ) (offence : Offence) → InTasksOfOne1 k x place offence → InTasksOfOne k (up_one x) place offence
  in_one-up k (Set1 c e) place offence h = elim h [ ]
  in_one-up k (Add1 c e) place offence h = elim h [ ]
  in_one-up k Wait1 place offence h = elim h [ ]
  in_one-up k (If1 e a b) place offence (inl h) = inl (in_tasks-up (k + 1) a place offence h)
  in_one-up k (If1 e a b) place offence (inr h) = inr (subst (λ n. InTasks (k + 1 + n) (up b) place offence) (sym (size-up a)) (in_tasks-up (k + 1 + size1 a) b place offence h))
  in_one-up k (Task1 d b) place offence (inl h) = inl (h.0, h.1, ends-up (k + 1) b h.2)
  in_one-up k (Task1 d b) place offence (inr (inl h)) = inr (inl (on_path-up (k + 1) b (Some d) place offence h))
  in_one-up k (Task1 d b) place offence (inr (inr h)) = inr (inr (in_tasks-up (k + 1) b place offence h))
  in_one-up k (Group1 cs b) place offence h = in_tasks-up (k + 1) b place offence h

  in_tasks-up : (k : ℕ) (b : Body1) (place : ℕ) (offence : Offence) → InTasks1 k b place offence → InTasks k (up b) place offence
  in_tasks-up k End1 place offence h = elim h [ ]
  in_tasks-up k (Next1 x rest) place offence (inl h) = inl (in_one-up k x place offence h)
  in_tasks-up k (Next1 x rest) place offence (inr h) = inr (subst (λ n. InTasks (k + n) (up rest) place offence) (sym (size_one-up x)) (in_tasks-up (k + size_one1 x) rest place offence h))

mutual
  in_one-old : (k : ℕ) (x : S1) (place : ℕ) (offence : Offence) → InTasksOfOne k (up_one x) place offence → InTasksOfOne1 k x place offence
  in_one-old k (Set1 c e) place offence h = elim h [ ]
  in_one-old k (Add1 c e) place offence h = elim h [ ]
  in_one-old k Wait1 place offence h = elim h [ ]
  in_one-old k (If1 e a b) place offence (inl h) = inl (in_tasks-old (k + 1) a place offence h)
  in_one-old k (If1 e a b) place offence (inr h) = inr (in_tasks-old (k + 1 + size1 a) b place offence (subst (λ n. InTasks (k + 1 + n) (up b) place offence) (size-up a) h))
  in_one-old k (Task1 d b) place offence (inl h) = inl (h.0, h.1, ends-old (k + 1) b h.2)
  in_one-old k (Task1 d b) place offence (inr (inl h)) = inr (inl (on_path-old (k + 1) b (Some d) place offence h))
  in_one-old k (Task1 d b) place offence (inr (inr h)) = inr (inr (in_tasks-old (k + 1) b place offence h))
  in_one-old k (Group1 cs b) place offence h = in_tasks-old (k + 1) b place offence h

  in_tasks-old : (k : ℕ) (b : Body1) (place : ℕ) (offence : Offence) → InTasks k (up b) place offence → InTasks1 k b place offence
  in_tasks-old k End1 place offence h = elim h [ ]
  in_tasks-old k (Next1 x rest) place offence (inl h) = inl (in_one-old k x place offence h)
  in_tasks-old k (Next1 x rest) place offence (inr h) = inr (in_tasks-old (k + size_one1 x) rest place offence (subst (λ n. InTasks (k + n) (up rest) place offence) (size_one-up x) h))

-- ---- offences

pub offends-up : (b : Body1) (place : ℕ) (offence : Offence) → Offends1 b place offence → Offends (up b) place offence
offends-up b place offence (inl h) = inl (on_path-up 1 b None place offence h)
offends-up b place offence (inr h) = inr (in_tasks-up 1 b place offence h)

pub offends-old : (b : Body1) (place : ℕ) (offence : Offence) → Offends (up b) place offence → Offends1 b place offence
offends-old b place offence (inl h) = inl (on_path-old 1 b None place offence h)
offends-old b place offence (inr h) = inr (in_tasks-old 1 b place offence h)

-- what is the first by the one is the first by the other, where they hold of the same
pub first_of_same : (P Q : ℕ → Offence → Type 0) (told : Option (ℕ × Offence)) → ((place : ℕ) (offence : Offence) → P place offence → Q place offence)
    → ((place : ℕ) (offence : Offence) → Q place offence → P place offence) → IsFirstOf P told → IsFirstOf Q told
first_of_same P Q None to from h = λ place offence q. h place offence (from place offence q)
first_of_same P Q (Some first) to from h = (to first.0 first.1 h.0, λ place offence q. h.1 place offence (from place offence q))
