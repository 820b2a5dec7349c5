-- The lists and the numbers of those that wait, as a child is added and as one finishes.
use Rattle.std.proofs.Common.{◌≡◌, ◌≢◌, ◌==◌, ◌||◌, ◌+◌, ◌-◌, ℕ, zero, suc, ◌<◌, ◌≤◌, List, [], ◌∷◌, ◌++◌, Bool, true, false, cond, get_or, length, Option, Some, None, inl, inr, refl, sym, ap, ◌∙◌, arith, true≢false}
use Rattle.std.specs.List.{slice_get}
use Rattle.std.specs.Option.{option_map}
use Rattle.std.proofs.lemmas.Bool.{cases_lt, ne_eqb, eq-eqb}
use Rattle.std.proofs.lemmas.Option.{same_Some, none-some, slice_get-map}
use Rattle.std.proofs.lemmas.List.{length-map, get_or_past}
use Rattle.ot_model.proofs.CellsLemmas.{map-updated}
use Rattle.ot_model.specs.Cells.{updated}
use Rattle.ot_model.specs.declared.expr.Cell.{Cell}
use Rattle.ot_model.specs.declared.stmt.Use.{Use}
use Rattle.ot_depend.specs.Siblings.{Sibling, with_finished, uses_cell, has, times}
use Rattle.ot_depend.specs.Kept.{decls, IsDirect, ends_with, with_last, Kid, siblings, owes, due, IsLinked, one_less, woken, kid_ended, enlist, kids_enlisted}
use Rattle.ot_depend.proofs.ListLemmas.{updated_back, map-updated-by, sum_by-updated-same, sum_by-updated, with_last-twice, times-with_last, times-with_last-other, times-cons}

-- ---- those that are told wait for less

-- a child after those were told: what it waits for is less, and nothing else is changed
pub woken_back : (told : List ℕ) (kids : List Kid) (j : ℕ) (k : Kid) → slice_get (woken kids told) j ≡ Some k →
    (t : Kid) × (slice_get kids j ≡ Some t) × (k.it ≡ t.it) × (k.waiters ≡ t.waiters) × (k.waiting ≡ t.waiting - times j told)
woken_back [] kids j k there = (k, there, refl, refl, omega arith)
woken_back (w ∷ ws) kids j k there =
    let later = woken_back ws (updated kids w one_less) j k there in
    let now = updated_back one_less kids w j later.0 later.1 in
    elim now.2 [
      | inl here ↦ (
        now.0,
        now.1,
        later.2 ∙ ap (λ (t : Kid). t.it) here.1,
        later.3 ∙ ap (λ (t : Kid). t.waiters) here.1,
        later.4 ∙ ap (λ (t : Kid). t.waiting - times j ws) here.1 ∙ less (now.0.waiting) (eq-eqb w j here.0),
      )
      | inr other ↦ (
        now.0,
        now.1,
        later.2 ∙ ap (λ (t : Kid). t.it) other.1,
        later.3 ∙ ap (λ (t : Kid). t.waiters) other.1,
        later.4 ∙ ap (λ (t : Kid). t.waiting - times j ws) other.1 ∙ same (now.0.waiting) (ne_eqb w j other.0),
      )
    ]
  where
    less : (m : ℕ) → (w == j) ≡ true → (m - 1) - times j ws ≡ m - times j (w ∷ ws)
    less m is = rw (times-cons j w ws, is) (omega arith)

    same : (m : ℕ) → (w == j) ≡ false → m - times j ws ≡ m - times j (w ∷ ws)
    same m is = rw (times-cons j w ws, is) (omega arith)

pub siblings-woken : (told : List ℕ) (kids : List Kid) → siblings (woken kids told) ≡ siblings kids
siblings-woken [] kids = refl
siblings-woken (w ∷ ws) kids = siblings-woken ws (updated kids w one_less) ∙ map-updated (λ (k : Kid). k.it) kids w one_less (λ k. refl)

due-woken : (j : ℕ) (told : List ℕ) (kids : List Kid) → due j (woken kids told) ≡ due j kids
due-woken j [] kids = refl
due-woken j (w ∷ ws) kids = due-woken j ws (updated kids w one_less) ∙ sum_by-updated-same (owes j) one_less (λ k. refl) kids w

pub siblings-ended : (kids : List Kid) (i : ℕ) → siblings (updated kids i kid_ended) ≡ with_finished (siblings kids) i
siblings-ended kids i = map-updated-by (λ (k : Kid). k.it) kid_ended (λ s. record s { finished = true }) (λ k. refl) kids i

decls-finished : (ss : List Sibling) (i : ℕ) → decls (with_finished ss i) ≡ decls ss
decls-finished ss i = map-updated (λ (s : Sibling). s.uses) ss i (λ s. record s { finished = true }) (λ s. refl)

module _ (kids : List Kid) (i : ℕ) (me : Kid) (linked : IsLinked kids) (known : slice_get kids i ≡ Some me) (unfinished : me.it.finished ≡ false) where
  -- what the children are for those that read them
  pub siblings-end : siblings (updated (woken kids me.waiters) i kid_ended) ≡ with_finished (siblings kids) i
  siblings-end = siblings-ended (woken kids me.waiters) i ∙ ap (λ ss. with_finished ss i) (siblings-woken me.waiters kids)

  pub decls-end : decls (siblings (updated (woken kids me.waiters) i kid_ended)) ≡ decls (siblings kids)
  decls-end = ap decls siblings-end ∙ decls-finished (siblings kids) i

  -- a child that has not finished then, as it was
  pub end_back : (j : ℕ) (k : Kid) → slice_get (updated (woken kids me.waiters) i kid_ended) j ≡ Some k →
      (t : Kid) × (slice_get kids j ≡ Some t) × (k.waiters ≡ t.waiters) × (k.waiting ≡ t.waiting - times j me.waiters) × (k.it.finished ≡ false → t.it.finished ≡ false)
  end_back j k there =
      let now = updated_back kid_ended (woken kids me.waiters) i j k there in
      let old = woken_back me.waiters kids j now.0 now.1 in
      elim now.2 [
        | inl here ↦ (
          old.0,
          old.1,
          ap (λ (t : Kid). t.waiters) here.1 ∙ old.3,
          ap (λ (t : Kid). t.waiting) here.1 ∙ old.4,
          λ still. absurd (true≢false (sym (ap (λ (t : Kid). t.it.finished) here.1) ∙ still)),
        )
        | inr other ↦ (
          old.0,
          old.1,
          ap (λ (t : Kid). t.waiters) other.1 ∙ old.3,
          ap (λ (t : Kid). t.waiting) other.1 ∙ old.4,
          λ still. ap (λ (s : Sibling). s.finished) (sym old.2) ∙ sym (ap (λ (t : Kid). t.it.finished) other.1) ∙ still,
        )
      ]

  due-end : (j : ℕ) → due j (updated (woken kids me.waiters) i kid_ended) ≡ due j kids - times j me.waiters
  due-end j = by (slice_get (woken kids me.waiters) i) refl
    where
      by : (o : Option Kid) → slice_get (woken kids me.waiters) i ≡ o → due j (updated (woken kids me.waiters) i kid_ended) ≡ due j kids - times j me.waiters
      by None none = absurd (none-some me.it (
          sym (slice_get-map (λ (t : Kid). t.it) (woken kids me.waiters) i ∙ ap (option_map (λ (t : Kid). t.it)) none)
          ∙ ap (λ ss. slice_get ss i) (siblings-woken me.waiters kids)
          ∙ slice_get-map (λ (t : Kid). t.it) kids i ∙ ap (option_map (λ (t : Kid). t.it)) known))
      by (Some t) there =
          let old = woken_back me.waiters kids i t there in
          let same : me ≡ old.0 = same_Some me old.0 (sym known ∙ old.1) in
          let still : t.it.finished ≡ false = ap (λ (r : Sibling). r.finished) old.2 ∙ ap (λ (x : Kid). x.it.finished) (sym same) ∙ unfinished in
          let is : owes j t ≡ times j me.waiters = ap (λ b. cond b 0 (times j t.waiters)) still ∙ ap (times j) (old.3 ∙ ap (λ (x : Kid). x.waiters) (sym same)) in
          let none : owes j (kid_ended t) ≡ 0 = refl in
          omega (arith, sum_by-updated (owes j) kid_ended (woken kids me.waiters) i t there, due-woken j me.waiters kids)

  -- the lists and numbers are as they have to be
  pub IsLinked-end : IsLinked (updated (woken kids me.waiters) i kid_ended)
  IsLinked-end = record {
    told = λ a b k there still waits. let t = end_back a k there in
        rw decls-end (linked.told a b t.0 t.1 (t.4 still) (ap (has b) (sym t.2) ∙ waits));
    telling = λ a b k there still direct. let t = end_back a k there in
        ap (has b) t.2 ∙ linked.telling a b t.0 t.1 (t.4 still) (rw decls-end at direct);
    once = λ a b k there. let t = end_back a k there in rw t.2 (linked.once a b t.0 t.1);
    counted = λ j k there. let t = end_back j k there in t.3 ∙ ap (λ m. m - times j me.waiters) (linked.counted j t.0 t.1) ∙ sym (due-end j);
  }

-- ---- a child is added

-- with a number put behind where a mark says so
abbrev pub grown : Bool → Bool → ℕ → List ℕ → List ℕ
grown finished named child waiters = cond finished waiters (cond named (with_last child waiters) waiters)

grown-twice : (finished named : Bool) (child : ℕ) (xs : List ℕ) → grown finished named child (cond finished xs (with_last child xs)) ≡ cond finished xs (with_last child xs)
grown-twice true named child xs = refl
grown-twice false true child xs = with_last-twice child xs
grown-twice false false child xs = refl

-- a child after this one was put to those that wait for it
pub enlisted_back : (child : ℕ) (earlier : List ℕ) (kids : List Kid) (i : ℕ) (k : Kid) → slice_get (kids_enlisted child kids earlier) i ≡ Some k →
    (t : Kid) × (slice_get kids i ≡ Some t) × (k.it ≡ t.it) × (k.waiting ≡ t.waiting) × (k.waiters ≡ grown t.it.finished (has i earlier) child t.waiters)
enlisted_back child [] kids i k there = (k, there, refl, refl, same k.it.finished)
  where
    same : (b : Bool) → k.waiters ≡ grown b false child k.waiters
    same true = refl
    same false = refl
enlisted_back child (e ∷ es) kids i k there =
    let later = enlisted_back child es (updated kids e (enlist child)) i k there in
    let now = updated_back (enlist child) kids e i later.0 later.1 in
    elim now.2 [
      | inl here ↦ (
        now.0,
        now.1,
        later.2 ∙ ap (λ (t : Kid). t.it) here.1,
        later.3 ∙ ap (λ (t : Kid). t.waiting) here.1,
        later.4 ∙ ap (λ (t : Kid). grown t.it.finished (has i es) child t.waiters) here.1 ∙ grown-twice now.0.it.finished (has i es) child now.0.waiters
            ∙ ap (λ b. grown now.0.it.finished (b || has i es) child now.0.waiters) (sym (eq-eqb e i here.0)),
      )
      | inr other ↦ (
        now.0,
        now.1,
        later.2 ∙ ap (λ (t : Kid). t.it) other.1,
        later.3 ∙ ap (λ (t : Kid). t.waiting) other.1,
        later.4 ∙ ap (λ (t : Kid). grown t.it.finished (has i es) child t.waiters) other.1
            ∙ ap (λ b. grown now.0.it.finished (b || has i es) child now.0.waiters) (sym (ne_eqb e i other.0)),
      )
    ]

pub siblings-enlisted : (child : ℕ) (earlier : List ℕ) (kids : List Kid) → siblings (kids_enlisted child kids earlier) ≡ siblings kids
siblings-enlisted child [] kids = refl
siblings-enlisted child (e ∷ es) kids = siblings-enlisted child es (updated kids e (enlist child)) ∙ map-updated (λ (k : Kid). k.it) kids e (enlist child) (λ k. refl)

pub length-enlisted : (child : ℕ) (earlier : List ℕ) (kids : List Kid) → length (kids_enlisted child kids earlier) ≡ length kids
length-enlisted child earlier kids =
    sym (length-map (kids_enlisted child kids earlier) (λ (k : Kid). k.it)) ∙ ap length (siblings-enlisted child earlier kids) ∙ length-map kids (λ (k : Kid). k.it)

owes-enlist-other : (j child : ℕ) → j ≢ child → (k : Kid) → owes j (enlist child k) ≡ owes j k
owes-enlist-other j child apart k = by k.it.finished
  where
    by : (b : Bool) → cond b 0 (times j (cond b k.waiters (with_last child k.waiters))) ≡ cond b 0 (times j k.waiters)
    by true = refl
    by false = times-with_last-other j child k.waiters apart

pub due-enlisted-other : (j child : ℕ) (earlier : List ℕ) (kids : List Kid) → j ≢ child → due j (kids_enlisted child kids earlier) ≡ due j kids
due-enlisted-other j child [] kids apart = refl
due-enlisted-other j child (e ∷ es) kids apart = due-enlisted-other j child es (updated kids e (enlist child)) apart ∙ sum_by-updated-same (owes j) (enlist child) (owes-enlist-other j child apart) kids e

-- one more is due to it where it is put behind
pub due-enlist : (child i : ℕ) (kids : List Kid) (k : Kid) → slice_get kids i ≡ Some k →
    due child (updated kids i (enlist child)) ≡ due child kids + cond (k.it.finished || ends_with child k.waiters) 0 1
due-enlist child i kids k there = let one = by k.it.finished in omega (arith, sum_by-updated (owes child) (enlist child) kids i k there)
  where
    by : (b : Bool) → cond b 0 (times child (cond b k.waiters (with_last child k.waiters))) ≡ cond b 0 (times child k.waiters) + cond (b || ends_with child k.waiters) 0 1
    by true = refl
    by false = times-with_last child k.waiters

-- ---- what earlier children declare stays

-- a declaration that has a cell is that of a known child
pub use_within : (ds : List (List Use)) (c : Cell) (j : ℕ) → uses_cell c (get_or ds j []) ≡ true → j < length ds
use_within ds c j uses = elim (cases_lt j (length ds)) [
  | inl within ↦ within
  | inr past ↦ absurd (true≢false (sym uses ∙ ap (uses_cell c) (get_or_past ds j [] past)))
]

pub get_or-behind : (ds : List (List Use)) (us : List Use) (k : ℕ) → k ≢ length ds → get_or (ds ++ us ∷ []) k [] ≡ get_or ds k []
get_or-behind [] us zero apart = absurd (apart refl)
get_or-behind [] us (suc k) apart = refl
get_or-behind (d ∷ ds) us zero apart = refl
get_or-behind (d ∷ ds) us (suc k) apart = get_or-behind ds us k (λ is. apart (ap suc is))

IsDirect-same : (ds es : List (List Use)) (i j : ℕ) → ((k : ℕ) → k ≤ j → get_or es k [] ≡ get_or ds k []) → IsDirect ds i j → IsDirect es i j
IsDirect-same ds es i j same direct =
    let at_i : get_or es i [] ≡ get_or ds i [] = let order : i < j = direct.order in same i (omega arith) in
    let at_j : get_or es j [] ≡ get_or ds j [] = same j (omega arith) in
    record {
      cell = direct.cell;
      order = direct.order;
      used = rw at_i direct.used;
      uses = rw at_j direct.uses;
      written = rw (at_i, at_j) direct.written;
      between = λ k after before. rw (same k (omega arith)) (direct.between k after before);
    }

pub IsDirect-behind : (ds : List (List Use)) (us : List Use) (i j : ℕ) → IsDirect ds i j → IsDirect (ds ++ us ∷ []) i j
IsDirect-behind ds us i j direct =
    let within : j < length ds = use_within ds direct.cell j direct.uses in
    IsDirect-same ds (ds ++ us ∷ []) i j (λ k below. get_or-behind ds us k (λ is. omega (arith, is))) direct

pub IsDirect-before : (ds : List (List Use)) (us : List Use) (i j : ℕ) → j ≢ length ds → IsDirect (ds ++ us ∷ []) i j → IsDirect ds i j
IsDirect-before ds us i j apart direct =
    let within : j < length ds = use_within ds direct.cell j (ap (uses_cell direct.cell) (sym (get_or-behind ds us j apart)) ∙ direct.uses) in
    IsDirect-same (ds ++ us ∷ []) ds i j (λ k below. sym (get_or-behind ds us k (λ is. omega (arith, is)))) direct

-- none waits for itself a child that isn't there yet
pub no_direct : (ds : List (List Use)) (i j : ℕ) → length ds ≤ j → IsDirect ds i j → ⊥
no_direct ds i j past direct = let within : j < length ds = use_within ds direct.cell j direct.uses in omega arith
