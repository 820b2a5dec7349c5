-- What a task's body may do, where nothing in the program is an offence.
use Rattle.std.proofs.Common.{◌≡◌, ℕ, true, false, not, ◌&&◌, ◌||◌, List, [], ◌∷◌, refl, sym, subst, ◌∙◌, inl, inr}
use Rattle.std.specs.Prelude.{Some, None}
use Rattle.std.specs.List.{list_any}
use Rattle.ot_model.specs.Tree.{E, S, Set, Fold, If, Task, Wait, Group, Body, End, Next, cells_named}
use Rattle.ot_model.specs.Names.{NamedIn, OneNamedIn, ValueNamedIn}
use Rattle.ot_model.specs.declared.expr.Cell.{Cell}
use Rattle.ot_model.specs.Cells.{same_fold, same_cell}
use Rattle.ot_model.specs.declared.fold.Fold.{Fold as Operation}
use Rattle.ot_model.specs.declared.stmt.Mode.{Mode}
use Rattle.ot_model.specs.declared.stmt.Mode.TheVariants.{Reads, Writes, Folds}
use Rattle.ot_model.specs.declared.stmt.Use.{Use}
use Rattle.ot_check.specs.Offences.{use_as, Declared, Openings, allows, opened_by_any, folds_by, folds_to, exceeds, misfits, covers, has_cell, EachRead, EachTouch, EachTouchOne, EachTask, EachTaskOne}
use Rattle.ot_check.specs.Discipline.{Children, nobody, nothing_open, behind_one, with_group, IsClean, IsFineInside, IsFine, OffendsNowhere}
use Rattle.ot_check.specs.declared.fault.Offence.TheVariants.{NotDeclared, ChildBeyond, ReductionMisuse}
use Rattle.ot_check.proofs.OffenceLemmas.{is_offence-Set, is_offence-Fold, is_offence-If, is_offence-ChildBeyond, is_offence-ReductionMisuse, is_offence-Group}
use Rattle.ot_model.proofs.EqualLemmas.{fold-decides}
use Rattle.ot_check.proofs.ApartLemmas.{read-weaker, touch-weaker}
use Rattle.ot_check.proofs.SameLemmas.{same_is}
use Rattle.ot_check.proofs.FoldLemmas.{both_false}
use Rattle.ot_check.proofs.TouchLemmas.{reads_none}
use Rattle.ot_check.proofs.FineLemmas.{disciplined-fine}
use Rattle.ot_check.proofs.Bits.{or_true, true_or, or_right, and_left, and_right, and_true, or_false_left, or_false_right, not_false}

-- ---- each read

abbrev pub Allowed : Declared → Use → Type 0
Allowed own u = allows own u ≡ true

reads_allowed : (lens : List ℕ) (own : Declared) (e : E) → ValueNamedIn lens e → list_any (λ c. not (allows own (use_as Reads c))) (cells_named e) ≡ false
    → EachRead (λ c. Allowed own (use_as Reads c)) e
reads_allowed lens own e named h =
    read-weaker (λ c. not (allows own (use_as Reads c)) ≡ false) (λ c. Allowed own (use_as Reads c)) e (λ c. not_false (allows own (use_as Reads c)))
    (reads_none (λ c. not (allows own (use_as Reads c))) lens e named h)

-- ---- what a child's declaration lets it do, its parent's lets it too

-- each cell of an open group is declared as Writes
abbrev pub Groups : Declared → Openings → Type 0
Groups own opened = (o : Operation) (c : Cell) → opened o c ≡ true → Allowed own (use_as Writes c)

-- a cell that is declared as Writes may be used in any mode
covers_all : (declared wanted : Mode) → covers declared Writes ≡ true → covers declared wanted ≡ true
covers_all Reads wanted h = cc
covers_all Writes wanted h = refl
covers_all (Folds o) wanted h = cc

any_covers : (uses : List Use) (c : Cell) (m : Mode) → Allowed (Some uses) (use_as Writes c) → Allowed (Some uses) (use_as m c)
any_covers [] c m h = h
any_covers (d ∷ uses) c m h =
    elim (or_true (same_cell d.cell c && covers d.mode Writes) (list_any (λ d. same_cell d.cell c && covers d.mode Writes) uses) h) [
      | inl one ↦ true_or _ _ (and_true (same_cell d.cell c) (covers d.mode m) (and_left (same_cell d.cell c) (covers d.mode Writes) one)
          (covers_all d.mode m (and_right (same_cell d.cell c) (covers d.mode Writes) one)))
      | inr more ↦ or_right _ _ (any_covers uses c m more)
    ]

written : (own : Declared) (c : Cell) (m : Mode) → Allowed own (use_as Writes c) → Allowed own (use_as m c)
written None c m h = refl
written (Some uses) c m h = any_covers uses c m h

folds_covers : (o : Operation) (m : Mode) → folds_by o m ≡ true → covers m (Folds o) ≡ true
folds_covers o Reads h = cc
folds_covers o Writes h = cc
folds_covers o (Folds by) h = h

any_folds : (uses : List Use) (o : Operation) (c : Cell) → folds_to (Some uses) o c ≡ true → Allowed (Some uses) (use_as (Folds o) c)
any_folds [] o c h = h
any_folds (d ∷ uses) o c h =
    elim (or_true (same_cell d.cell c && folds_by o d.mode) (list_any (λ d. same_cell d.cell c && folds_by o d.mode) uses) h) [
      | inl one ↦ true_or _ _ (and_true (same_cell d.cell c) (covers d.mode (Folds o)) (and_left (same_cell d.cell c) (folds_by o d.mode) one)
          (folds_covers o d.mode (and_right (same_cell d.cell c) (folds_by o d.mode) one)))
      | inr more ↦ or_right _ _ (any_folds uses o c more)
    ]

pub folded : (own : Declared) (o : Operation) (c : Cell) → folds_to own o c ≡ true → Allowed own (use_as (Folds o) c)
folded None o c h = refl
folded (Some uses) o c h = any_folds uses o c h

-- a child's use of a cell that fits the parent
use_fits : (own : Declared) (opened : Openings) (c : Cell) (m wanted : Mode) → Groups own opened → exceeds own (use_as m c) ≡ false
    → misfits own opened (use_as m c) ≡ false → covers m wanted ≡ true → Allowed own (use_as wanted c)
use_fits own opened c Reads Reads groups exceed misfit covered = not_false (allows own (use_as Reads c)) exceed
use_fits own opened c Reads Writes groups exceed misfit covered = cc
use_fits own opened c Reads (Folds o) groups exceed misfit covered = cc
use_fits own opened c Writes wanted groups exceed misfit covered = written own c wanted (not_false (allows own (use_as Writes c)) exceed)
use_fits own opened c (Folds o) Reads groups exceed misfit covered = cc
use_fits own opened c (Folds o) Writes groups exceed misfit covered = cc
use_fits own opened c (Folds o) (Folds by) groups exceed misfit covered =
    subst (λ o. Allowed own (use_as (Folds o) c)) ((fold-decides o by).0 covered)
    (elim (both_false (folds_to own o c) (opened o c) misfit) [
      | inl declared ↦ folded own o c declared
      | inr grouped ↦ written own c (Folds o) (groups o c grouped)
    ])

pub child_fits : (own : Declared) (opened : Openings) (uses : List Use) → Groups own opened → list_any (exceeds own) uses ≡ false
    → list_any (misfits own opened) uses ≡ false → (u : Use) → Allowed (Some uses) u → Allowed own u
child_fits own opened [] groups exceed misfit u h = cc
child_fits own opened (d ∷ uses) groups exceed misfit u h =
    elim (or_true (same_cell d.cell u.cell && covers d.mode u.mode) (list_any (λ d. same_cell d.cell u.cell && covers d.mode u.mode) uses) h) [
      | inl one ↦
          subst (λ c. Allowed own (use_as u.mode c)) (same_is d.cell u.cell (and_left (same_cell d.cell u.cell) (covers d.mode u.mode) one))
          (use_fits own opened d.cell d.mode u.mode groups (or_false_left (exceeds own d) (list_any (exceeds own) uses) exceed)
          (or_false_left (misfits own opened d) (list_any (misfits own opened) uses) misfit) (and_right (same_cell d.cell u.cell) (covers d.mode u.mode) one))
      | inr more ↦
          child_fits own opened uses groups (or_false_right (exceeds own d) (list_any (exceeds own) uses) exceed)
          (or_false_right (misfits own opened d) (list_any (misfits own opened) uses) misfit) u more
    ]

-- a cell that a group may name
abbrev MayBeNamed : Declared → Openings → Cell → Type 0
MayBeNamed own opened c = (not (allows own (use_as Writes c)) || opened_by_any opened c) ≡ false

group_may : (own : Declared) (opened : Openings) (cells : List Cell) (c : Cell)
    → list_any (λ d. not (allows own (use_as Writes d)) || opened_by_any opened d) cells ≡ false → has_cell cells c ≡ true → MayBeNamed own opened c
group_may own opened [] c h there = cc
group_may own opened (d ∷ cells) c h there =
    elim (or_true (same_cell d c) (has_cell cells c) there) [
      | inl one ↦
          subst (MayBeNamed own opened) (same_is d c one)
          (or_false_left (not (allows own (use_as Writes d)) || opened_by_any opened d) (list_any (λ d. not (allows own (use_as Writes d)) || opened_by_any opened d) cells) h)
      | inr more ↦
          group_may own opened cells c
          (or_false_right (not (allows own (use_as Writes d)) || opened_by_any opened d) (list_any (λ d. not (allows own (use_as Writes d)) || opened_by_any opened d) cells) h) more
    ]

group_writes : (own : Declared) (opened : Openings) (cells : List Cell) (c : Cell)
    → list_any (λ d. not (allows own (use_as Writes d)) || opened_by_any opened d) cells ≡ false → has_cell cells c ≡ true → Allowed own (use_as Writes c)
group_writes own opened cells c h there =
    not_false (allows own (use_as Writes c)) (or_false_left (not (allows own (use_as Writes c))) (opened_by_any opened c) (group_may own opened cells c h there))

-- no open group names a cell that a group may name
pub group_free : (own : Declared) (opened : Openings) (cells : List Cell) (c : Cell)
    → list_any (λ d. not (allows own (use_as Writes d)) || opened_by_any opened d) cells ≡ false → has_cell cells c ≡ true → opened_by_any opened c ≡ false
group_free own opened cells c h there =
    or_false_right (not (allows own (use_as Writes c))) (opened_by_any opened c) (group_may own opened cells c h there)

pub groups_inside : (own : Declared) (opened : Openings) (by : Operation) (cells : List Cell) → Groups own opened
    → list_any (λ d. not (allows own (use_as Writes d)) || opened_by_any opened d) cells ≡ false → Groups own (with_group opened by cells)
groups_inside own opened by cells groups h o c there =
    elim (or_true (opened o c) (same_fold by o && has_cell cells c) there) [
      | inl before ↦ groups o c before
      | inr now ↦ group_writes own opened cells c h (and_right (same_fold by o) (has_cell cells c) now)
    ]

no_groups : (own : Declared) → Groups own nothing_open
no_groups own o c h = cc

-- ---- bodies of which nothing is told

abbrev Fits : List Use → Body → Type 0
Fits uses b = EachTouch (Allowed (Some uses)) b

mutual
  inside_one : (lens : List ℕ) (own : Declared) (opened : Openings) (children : Children) (x : S) → OneNamedIn lens x → Groups own opened
      → IsClean own opened children x → IsFineInside own opened children x → EachTouchOne (Allowed own) x × EachTaskOne Fits x
  inside_one lens own opened children (Set c e) named groups clean fine =
      let both = sym (is_offence-Set own opened children c e NotDeclared) ∙ clean NotDeclared in
      ((reads_allowed lens own e named.1 (or_false_left _ _ both), not_false (allows own (use_as Writes c)) (or_false_right _ _ both)), tt)
  inside_one lens own opened children (Fold o c e) named groups clean fine =
      let both = sym (is_offence-Fold own opened children o c e NotDeclared) ∙ clean NotDeclared in
      ((reads_allowed lens own e named.1 (or_false_left _ _ both), not_false (allows own (use_as (Folds o) c)) (or_false_right _ _ both)), tt)
  inside_one lens own opened children (If e a b) named groups clean fine =
      let p = inside_body lens own opened children a named.1 groups fine.0 in
      let q = inside_body lens own opened children b named.2 groups fine.1 in
      ((reads_allowed lens own e named.0 (sym (is_offence-If own opened children e a b NotDeclared) ∙ clean NotDeclared), p.0, q.0), (p.1, q.1))
  inside_one lens own opened children (Task d b) named groups clean fine =
      let p = inside_body lens (Some d) nothing_open nobody b named.1 (no_groups (Some d)) fine in (
        touch-weaker (Allowed (Some d)) (Allowed own) b
            (child_fits own opened d groups (sym (is_offence-ChildBeyond own opened children d b) ∙ clean ChildBeyond)
            (sym (is_offence-ReductionMisuse own opened children d b) ∙ clean ReductionMisuse)) p.0,
        (p.0, p.1),
      )
  inside_one lens own opened children (Wait w) named groups clean fine = (tt, tt)
  inside_one lens own opened children (Group o cs b) named groups clean fine =
      inside_body lens own (with_group opened o cs) children b named.1
      (groups_inside own opened o cs groups (sym (is_offence-Group own opened children o cs b ReductionMisuse) ∙ clean ReductionMisuse)) fine

  inside_body : (lens : List ℕ) (own : Declared) (opened : Openings) (children : Children) (b : Body) → NamedIn lens b → Groups own opened
      → IsFine own opened children b → EachTouch (Allowed own) b × EachTask Fits b
  inside_body lens own opened children End named groups fine = (tt, tt)
  inside_body lens own opened children (Next x rest) named groups fine =
      let p = inside_one lens own opened children x named.0 groups fine.0 fine.1 in
      let q = inside_body lens own opened (behind_one children x) rest named.1 groups fine.2 in
      ((p.0, q.0), (p.1, q.1))

pub inside : (lens : List ℕ) (body : Body) → NamedIn lens body → OffendsNowhere body → EachTask (λ uses b. EachTouch (λ u. allows (Some uses) u ≡ true) b) body
inside lens body named nowhere = (inside_body lens None nothing_open nobody body named (no_groups None) (disciplined-fine body nowhere)).1
