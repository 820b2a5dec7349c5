-- Readiness as a test.
use Rattle.std.proofs.Common.{◌≡◌, ◌↔◌, ◌&&◌, ◌||◌, ℕ, List, Bool, true, false, not, take, get_or, IsTrue, Option, Some, None, refl, sym, ap, ◌∙◌, arith, true≢false}
use Rattle.std.specs.List.{Any, list_any, list_all, slice_get}
use Rattle.std.proofs.lemmas.Bool.Decides.{nat_tests}
use Rattle.std.proofs.lemmas.List.Folds.{Any-from_list_any, list_any-from_Any}
use Rattle.std.proofs.lemmas.List.Sums.{AllPass-from_list_all, list_all-from_AllPass}
use Rattle.ot_model.proofs.CellsLemmas as cells
use Rattle.ot_model.specs.Cells.{same_cell, DependsOn, one_writes, depends_on}
use Rattle.ot_model.specs.declared.expr.Cell.{Cell}
use Rattle.ot_model.specs.declared.stmt.Use.{Use}
use Rattle.ot_depend.specs.Siblings.{Sibling, IsReady, is_ready}
use Rattle.ot_depend.proofs.SiblingsLemmas.{LetsRun, IsReady-from_All, All-from_IsReady}

-- a test of some element finds one that passes, and one that passes is found
pub any_found : {A : Type 0} (P : A → Type 0) (p : A → Bool) → ((x : A) → p x ≡ true → P x) → (xs : List A) → list_any p xs ≡ true → Any P xs
any_found P p passes xs passed = let found = Any-from_list_any p xs passed in (found.0, found.1, found.2, found.3, passes found.1 found.4)

pub any_tested : {A : Type 0} (P : A → Type 0) (p : A → Bool) → ((x : A) → P x → p x ≡ true) → (xs : List A) → Any P xs → list_any p xs ≡ true
any_tested P p passes xs (k, x, within, is, holds) = list_any-from_Any p xs (k, x, within, is, passes x holds)

pub one_cell : (c d : Cell) → same_cell c d ≡ true → c ≡ d
one_cell c d same = cells.same_cell c d (grind (arith, nat_tests)) (grind (arith, nat_tests))

pub cell_itself : (c d : Cell) → c ≡ d → same_cell c d ≡ true
cell_itself c d is = let array : c.array ≡ d.array = ap (λ x. x.array) is in let index : c.index ≡ d.index = ap (λ x. x.index) is in grind (arith, nat_tests)

both : (a b : Bool) → (a && b) ≡ true → (a ≡ true) × (b ≡ true)
both true b passed = (refl, passed)
both false b passed = absurd (true≢false (sym passed))

together : (a b : Bool) → a ≡ true → b ≡ true → (a && b) ≡ true
together a b one two = rw one two

-- the test of a dependence tells it
pub DependsOn-from_test : (earlier later : List Use) → depends_on earlier later ≡ true → DependsOn earlier later
DependsOn-from_test earlier later =
    any_found (λ u. Any (λ v. (u.cell ≡ v.cell) × IsTrue (one_writes u.mode v.mode)) later) (λ u. list_any (λ v. same_cell u.cell v.cell && one_writes u.mode v.mode) later)
    (λ u. any_found (λ v. (u.cell ≡ v.cell) × IsTrue (one_writes u.mode v.mode)) (λ v. same_cell u.cell v.cell && one_writes u.mode v.mode)
    (λ v passed. let parts = both (same_cell u.cell v.cell) (one_writes u.mode v.mode) passed in (one_cell u.cell v.cell parts.0, parts.1)) later) earlier

pub depends_on-from_DependsOn : (earlier later : List Use) → DependsOn earlier later → depends_on earlier later ≡ true
depends_on-from_DependsOn earlier later =
    any_tested (λ u. Any (λ v. (u.cell ≡ v.cell) × IsTrue (one_writes u.mode v.mode)) later) (λ u. list_any (λ v. same_cell u.cell v.cell && one_writes u.mode v.mode) later)
    (λ u. any_tested (λ v. (u.cell ≡ v.cell) × IsTrue (one_writes u.mode v.mode)) (λ v. same_cell u.cell v.cell && one_writes u.mode v.mode)
    (λ v here. together (same_cell u.cell v.cell) (one_writes u.mode v.mode) (cell_itself u.cell v.cell here.0) here.1) later) earlier

-- whether an earlier sibling lets one with these uses run
abbrev lets_run : List Use → Sibling → Bool
lets_run later earlier = earlier.finished || not (depends_on earlier.uses later)

LetsRun-from_test : (later : List Use) (earlier : Sibling) → lets_run later earlier ≡ true → LetsRun later earlier
LetsRun-from_test later earlier passed depends = told earlier.finished (depends_on earlier.uses later) passed (depends_on-from_DependsOn earlier.uses later depends)
  where
    told : (finished on : Bool) → (finished || not on) ≡ true → on ≡ true → finished ≡ true
    told true on passed here = refl
    told false true passed here = passed
    told false false passed here = here

lets_run-from_LetsRun : (later : List Use) (earlier : Sibling) → LetsRun later earlier → lets_run later earlier ≡ true
lets_run-from_LetsRun later earlier lets = told earlier.finished (depends_on earlier.uses later) (λ here. lets (DependsOn-from_test earlier.uses later here))
  where
    told : (finished on : Bool) → (on ≡ true → finished ≡ true) → (finished || not on) ≡ true
    told true on lets = refl
    told false true lets = lets refl
    told false false lets = refl

-- of a known child
known_ready : (siblings : List Sibling) (child : ℕ) (itself : Sibling) → slice_get siblings child ≡ Some itself → is_ready siblings child ≡ list_all (lets_run itself.uses) (take child siblings)
known_ready siblings child itself known = rw known refl

IsReady-from_test : (siblings : List Sibling) (child : ℕ) → is_ready siblings child ≡ true → IsReady siblings child
IsReady-from_test siblings child passed = by (slice_get siblings child) refl
  where
    by : (found : Option Sibling) → slice_get siblings child ≡ found → IsReady siblings child
    by None none = absurd (true≢false (sym passed ∙ rw none refl))
    by (Some itself) known =
        let all = AllPass-from_list_all (lets_run itself.uses) (take child siblings) (sym (known_ready siblings child itself known) ∙ passed) in
        IsReady-from_All siblings child itself known (λ k d within. LetsRun-from_test itself.uses (get_or (take child siblings) k d) (all k d within))

is_ready-from_IsReady : (siblings : List Sibling) (child : ℕ) → IsReady siblings child → is_ready siblings child ≡ true
is_ready-from_IsReady siblings child ready =
    let all = All-from_IsReady siblings child ready.itself ready.known ready in
    known_ready siblings child ready.itself ready.known
    ∙ list_all-from_AllPass (lets_run ready.itself.uses) (take child siblings) (λ k d within. lets_run-from_LetsRun ready.itself.uses (get_or (take child siblings) k d) (all k d within))

-- what tells exactly that the child is ready is the test
-- two answers that follow from each other
pub same_answer : (x y : Bool) → (x ≡ true → y ≡ true) → (y ≡ true → x ≡ true) → x ≡ y
same_answer true y f g = sym (f refl)
same_answer false true f g = g refl
same_answer false false f g = refl

pub is_ready-told : (b : Bool) (siblings : List Sibling) (child : ℕ) → (IsTrue b ↔ IsReady siblings child) → b ≡ is_ready siblings child
is_ready-told b siblings child told =
    same_answer b (is_ready siblings child) (λ passed. is_ready-from_IsReady siblings child (told.0 passed)) (λ passed. told.1 (IsReady-from_test siblings child passed))
