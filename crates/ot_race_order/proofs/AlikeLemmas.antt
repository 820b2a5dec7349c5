-- Where no task declares a fold, C orders tasks as the language does, and they touch the same.
use Rattle.std.proofs.Common.{◌≡◌, ◌∙◌, ℕ, ◌+◌, Bool, true, false, List, [], ◌∷◌, ◌++◌, length, map, refl, sym, ap, subst}
use Rattle.std.specs.Prelude.{◌||◌, ◌&&◌, ◌==◌, cond, not, if◌then◌else◌, Option, Some, None, unwrap_or}
use Rattle.std.proofs.lemmas.List.{map-append}
use Rattle.ot_model.specs.Tree.{S, Set, Fold, If, Task, Wait, Group, Body, End, Next, size, size_one}
use Rattle.ot_model.specs.Serial.{State, bump}
use Rattle.ot_model.specs.Cells.{is_fold, same_cell}
use Rattle.ot_model.specs.declared.stmt.Mode.{Mode}
use Rattle.ot_model.specs.declared.stmt.Mode.TheVariants.{Reads, Writes, Folds}
use Rattle.ot_model.specs.declared.expr.Cell.{Cell}
use Rattle.ot_model.specs.declared.fold.Fold.{Fold as Operation}
use Rattle.ot_model.specs.declared.stmt.Use.{Use}
use Rattle.ot_check.specs.Offences.{Declared, use_as, folds_by, folds_to}
use Rattle.ot_race.specs.Races.{IsRace}
use Rattle.ot_race.specs.Events.{Event, event, Touches, Begins, Awaits, Leaves, Way, uses_by, fold_as, events, events_one, events_of, beginning, after_one}
use Rattle.ot_race_order.specs.Instead.{instead}
use Rattle.ot_race_order.specs.Orders.{depend_of, touched_of, event_in_c, event_by_pointers, has_fold, folds_in, folds_in_one, ordered_by, is_alike}
use Rattle.ot_race_order.specs.declared.order.Order.{Order}
use Rattle.ot_race_order.specs.declared.order.Order.TheVariants.{OfLanguage, OfC, OfCByPointers}
use Rattle.ot_race_order.proofs.LikeLemmas.{race_there, pointers_like}

left_false : (a b : Bool) → (a || b) ≡ false → a ≡ false
left_false true b h = cc
left_false false b h = refl

right_false : (a b : Bool) → (a || b) ≡ false → b ≡ false
right_false true b h = cc
right_false false b h = h

not_true : (b : Bool) → not b ≡ true → b ≡ false
not_true true h = cc
not_true false h = refl

kept_if : (b : Bool) (u : Use) (us kept : List Use) → b ≡ false → kept ≡ us → cond (not b) (u ∷ kept) kept ≡ u ∷ us
kept_if true u us kept h is = cc
kept_if false u us kept h is = ap (λ vs. u ∷ vs) is

-- what has no fold is kept whole
kept_whole : (us : List Use) → has_fold us ≡ false → depend_of us ≡ us
kept_whole [] h = refl
kept_whole (u ∷ us) h =
    kept_if (is_fold u.mode) u us (depend_of us) (left_false (is_fold u.mode) (has_fold us) h) (kept_whole us (right_false (is_fold u.mode) (has_fold us) h))

some_kept : (b : Bool) (own kept : List Use) → Some own ≡ (if b then Some kept else None) → own ≡ kept
some_kept true own kept h = cc
some_kept false own kept h = cc

none_kept : (b : Bool) (kept us : List Use) → None ≡ (if b then Some kept else None) → (b ≡ false → kept ≡ us) → us ≡ kept
none_kept true kept us h whole = cc
none_kept false kept us h whole = sym (whole refl)

-- what stands for a declaration, or the declaration itself, is what is kept of it
pub stands_for : (parent : ℕ) (own : Option (List Use)) (wants : List Use) → own ≡ instead (Begins parent wants) → unwrap_or own wants ≡ depend_of wants
stands_for parent None wants h = none_kept (has_fold wants) (depend_of wants) wants h (kept_whole wants)
stands_for parent (Some own) wants h = some_kept (has_fold wants) own (depend_of wants) h

-- ---- what is touched where the task declares no fold

neither : (a b : Bool) → a ≡ false → b ≡ false → (a || b) ≡ false
neither true b h k = cc
neither false b h k = k

no_fold : (b : Bool) (m : Mode) (o : Operation) → is_fold m ≡ false → (b && folds_by o m) ≡ false
no_fold true Reads o h = refl
no_fold false Reads o h = refl
no_fold true Writes o h = refl
no_fold false Writes o h = refl
no_fold b (Folds p) o h = cc

-- a task that declares no fold folds into no copy
folds_none : (us : List Use) (o : Operation) (c : Cell) → has_fold us ≡ false → folds_to (Some us) o c ≡ false
folds_none [] o c h = refl
folds_none (u ∷ us) o c h =
    neither (same_cell u.cell c && folds_by o u.mode) (folds_to (Some us) o c)
    (no_fold (same_cell u.cell c) u.mode o (left_false (is_fold u.mode) (has_fold us) h))
    (folds_none us o c (right_false (is_fold u.mode) (has_fold us) h))

-- what is declared has no fold
abbrev NoFold : Declared → Type 0
NoFold None = Unit {0}
NoFold (Some us) = has_fold us ≡ false

writes_itself : (own : Declared) (o : Operation) (c : Cell) → NoFold own → fold_as own o c ≡ Writes
writes_itself None o c h = refl
writes_itself (Some us) o c h = ap (λ b. if b then Folds o else Writes) (folds_none us o c h)

-- reads and a write are touched all
reads_kept : (cs : List Cell) (more : List Use) → touched_of more ≡ more → touched_of (map (use_as Reads) cs ++ more) ≡ map (use_as Reads) cs ++ more
reads_kept [] more h = h
reads_kept (c ∷ cs) more h = ap (λ us. use_as Reads c ∷ us) (reads_kept cs more h)

writes_kept : (cs : List Cell) → touched_of (map (use_as Writes) cs) ≡ map (use_as Writes) cs
writes_kept [] = refl
writes_kept (c ∷ cs) = ap (λ us. use_as Writes c ∷ us) (writes_kept cs)

reads_alone : (cs : List Cell) → touched_of (map (use_as Reads) cs) ≡ map (use_as Reads) cs
reads_alone [] = refl
reads_alone (c ∷ cs) = ap (λ us. use_as Reads c ∷ us) (reads_alone cs)

-- ---- events, as they are taken in C by either kind

-- how events are taken: a declaration without folds stands, and so do the other deeds, and of the uses what is touched
record IsTaken (f : Event → Event) : Type 0 where
  touches : (me k : ℕ) (us : List Use) → f (event me k Touches us) ≡ event me k Touches (touched_of us)
  begins : (me k parent : ℕ) (wants : List Use) → has_fold wants ≡ false → f (event me k (Begins parent wants) []) ≡ event me k (Begins parent wants) []
  waits : (me k : ℕ) (w : Option (List Use)) → f (event me k (Awaits w) []) ≡ event me k (Awaits w) []
  leaves : (me k count : ℕ) (us : List Use) → f (event me k (Leaves count) us) ≡ event me k (Leaves count) (touched_of us)

taken_in_c : IsTaken event_in_c
taken_in_c = record {
  touches = λ me k us. refl;
  begins = λ me k parent wants h. ap (λ w. event me k (Begins parent w) []) (kept_whole wants h);
  waits = λ me k w. refl;
  leaves = λ me k count us. refl;
}

taken_by_pointers : IsTaken event_by_pointers
taken_by_pointers = record {
  touches = λ me k us. refl;
  begins = λ me k parent wants h. refl;
  waits = λ me k w. refl;
  leaves = λ me k count us. refl;
}

same_if : (f : Event → Event) (b : Bool) (es fs : List Event) → map f es ≡ es → map f fs ≡ fs → map f (if b then es else fs) ≡ (if b then es else fs)
same_if f true es fs h k = h
same_if f false es fs h k = k

one_same : (f : Event → Event) (me k : ℕ) (us : List Use) → IsTaken f → touched_of us ≡ us → f (event me k Touches us) ≡ event me k Touches us
one_same f me k us taken same = taken.touches me k us ∙ ap (event me k Touches) same

mutual
  same_one : (f : Event → Event) → IsTaken f → (way : Way) (own : Declared) (me k : ℕ) (x : S) (s : State) → NoFold own → folds_in_one x ≡ false
      → map f (events_one way own me k x s) ≡ events_one way own me k x s
  same_one f taken way own me k (Set c e) s none h = ap (λ e. e ∷ []) (one_same f me k _ taken (reads_kept (way.reads s e) (use_as Writes c ∷ []) refl))
  same_one f taken way own me k (Fold o c e) s none h =
      let writes = ap (λ m. map (use_as Reads) (way.reads s e) ++ use_as m c ∷ []) (writes_itself own o c none) in
      ap (λ e. e ∷ [])
      (one_same f me k _ taken (ap touched_of writes ∙ reads_kept (way.reads s e) (use_as Writes c ∷ []) refl ∙ sym writes))
  same_one f taken way own me k (If e a b) s none h =
      let two = events way own me (k + 1 + size a) b (bump 0 1 s) in
      let one = events way own me (k + 1) a (bump 0 1 s) in
      let part = if way.condition s e == 0 then two else one in
      ap (λ e. e ∷ map f part) (one_same f me k (uses_by way own s (If e a b)) taken (reads_alone (way.reads s e)))
      ∙ ap (λ es. event me k Touches (uses_by way own s (If e a b)) ∷ es)
      (same_if f (way.condition s e == 0) two one
      (same f taken way own me (k + 1 + size a) b (bump 0 1 s) none (right_false (folds_in a) (folds_in b) h))
      (same f taken way own me (k + 1) a (bump 0 1 s) none (left_false (folds_in a) (folds_in b) h)))
  same_one f taken way own me k (Task d b) s none h =
      let inside = events way (Some d) (s.tasks + 1) (k + 1) b (bump 1 1 s) in
      ap (λ e. e ∷ map f inside) (taken.begins (s.tasks + 1) k me d (left_false (has_fold d) (folds_in b) h))
      ∙ ap (λ es. event (s.tasks + 1) k (Begins me d) [] ∷ es)
      (same f taken way (Some d) (s.tasks + 1) (k + 1) b (bump 1 1 s) (left_false (has_fold d) (folds_in b) h) (right_false (has_fold d) (folds_in b) h))
  same_one f taken way own me k (Wait w) s none h = ap (λ e. e ∷ []) (taken.waits me k w)
  same_one f taken way own me k (Group o cs b) s none h =
      let inside = events way own me (k + 1) b (bump 0 1 s) in
      let end = event me k (Leaves (length inside)) (map (use_as Writes) cs) in
      map-append f inside (end ∷ [])
      ∙ ap (λ es. es ++ f end ∷ []) (same f taken way own me (k + 1) b (bump 0 1 s) none h)
      ∙ ap (λ e. inside ++ e ∷ []) (taken.leaves me k (length inside) (map (use_as Writes) cs) ∙ ap (event me k (Leaves (length inside))) (writes_kept cs))

  same : (f : Event → Event) → IsTaken f → (way : Way) (own : Declared) (me k : ℕ) (b : Body) (s : State) → NoFold own → folds_in b ≡ false
      → map f (events way own me k b s) ≡ events way own me k b s
  same f taken way own me k End s none h = refl
  same f taken way own me k (Next x rest) s none h =
      let one = events_one way own me k x s in
      let more = events way own me (k + size_one x) rest (after_one way x s) in
      map-append f one more
      ∙ ap (λ es. es ++ map f more) (same_one f taken way own me k x s none (left_false (folds_in_one x) (folds_in rest) h))
      ∙ ap (λ es. one ++ es) (same f taken way own me (k + size_one x) rest (after_one way x s) none (right_false (folds_in_one x) (folds_in rest) h))

pub no_fold_same : (order : Order) (body : Body) → folds_in body ≡ false → (way : Way) (cells : List (List ℕ))
    → ordered_by order (events_of way body cells) ≡ events_of way body cells
no_fold_same OfLanguage body h way cells = refl
no_fold_same OfC body h way cells = same event_in_c taken_in_c way None 0 1 body (beginning cells) tt h
no_fold_same OfCByPointers body h way cells = same event_by_pointers taken_by_pointers way None 0 1 body (beginning cells) tt h

pub alike_races : (order : Order) (body : Body) → is_alike order body ≡ true → (way : Way) (cells : List (List ℕ)) (cell : Cell) (i j : ℕ)
    → IsRace (ordered_by order (events_of way body cells)) cell i j → IsRace (events_of way body cells) cell i j
alike_races OfLanguage body h way cells cell i j race = race
alike_races OfC body h way cells cell i j race =
    subst (λ (es : List Event). IsRace es cell i j) (no_fold_same OfC body (not_true (folds_in body) h) way cells) race
alike_races OfCByPointers body h way cells cell i j race =
    race_there (map event_by_pointers (events_of way body cells)) (events_of way body cells) cell i j (pointers_like (events_of way body cells)) race

-- ---- the walk

-- nothing folds in a statement: all is said of those behind it
pub past : (x : S) (rest left body : Body) → left ≡ Next x rest → folds_in_one x ≡ false → folds_in left ≡ folds_in body → folds_in rest ≡ folds_in body
past x rest left body split h same = ap (λ b. b || folds_in rest) (sym h) ∙ ap folds_in (sym split) ∙ same

-- or something does
pub here : (x : S) (rest left body : Body) → left ≡ Next x rest → folds_in_one x ≡ true → folds_in left ≡ folds_in body → true ≡ folds_in body
here x rest left body split h same = ap (λ b. b || folds_in rest) (sym h) ∙ ap folds_in (sym split) ∙ same
