-- What a statement touches, where it is no offence: what its body may touch, no cell of an open group, and nothing that a
-- child may use otherwise.
use Rattle.std.proofs.Common.{◌≡◌, ◌<◌, ℕ, zero, suc, ◌+◌, ◌%◌, Bool, true, false, not, subst, ◌&&◌, ◌||◌, List, [], ◌∷◌, map, sym, ap, ◌∙◌, inl, inr, refl, arith}
use Rattle.std.specs.Prelude.{Some}
use Rattle.std.specs.List.{list_any, range_with_len}
use Rattle.std.proofs.Math.Nat.{mod-lt}
use Rattle.std.proofs.lemmas.List.Folds.{list_any-append}
use Rattle.ot_model.specs.Tree.{E, Literal, CellAt, Apply, PickFrom, Set, Fold, If, Task, Wait, Group, Body, End, Next, append, cell_at, cells_of, cells_named}
use Rattle.ot_model.specs.Cells.{same_cell, conflicts, same_fold}
use Rattle.ot_model.specs.Names.{NamedIn, ValueNamedIn}
use Rattle.ot_model.specs.declared.expr.Cell.{Cell}
use Rattle.ot_model.specs.declared.fold.Fold.{Fold as Operation}
use Rattle.ot_model.specs.declared.stmt.Mode.{Mode}
use Rattle.ot_model.specs.declared.stmt.Mode.TheVariants.{Reads, Writes, Folds}
use Rattle.ot_model.specs.declared.stmt.Use.{Use}
use Rattle.ot_check.specs.Offences.{Touch, use_as, Declared, Openings, allows, covers, clashes, EachRead, EachTouch, Agree}
use Rattle.ot_check.specs.Discipline.{Children, may_break, IsFine, IsHarmless, AreAssigns}
use Rattle.ot_check.specs.declared.fault.Offence.{Offence}
use Rattle.ot_model.proofs.EqualLemmas.{fold-decides}
use Rattle.ot_check.proofs.Bits.{or_true, and_left, and_right, or_false_left, or_false_right, not_false}
use Rattle.ot_check.proofs.SameLemmas.{same_itself, same_is}
use Rattle.ot_check.proofs.OffenceLemmas.{reading, is_offence-Set, is_offence-Fold, is_offence-If}

-- ---- reads

section_none : (test : Cell → Bool) (f : ℕ → Cell) (a n k : ℕ) → list_any test (map f (range_with_len a n)) ≡ false → k < n → test (f (a + k)) ≡ false
section_none test f a zero k h l = absurd (omega (arith, l))
section_none test f a (suc n) zero h l =
    let e : a + 0 ≡ a = omega arith in ap (λ m. test (f m)) e ∙ or_false_left (test (f a)) (list_any test (map f (range_with_len (a + 1) n))) h
section_none test f a (suc n) (suc k) h l =
    let e : a + suc k ≡ a + 1 + k = omega arith in
    ap (λ m. test (f m)) e ∙ section_none test f (a + 1) n k (or_false_right (test (f a)) (list_any test (map f (range_with_len (a + 1) n))) h) (omega (arith, l))

-- no cell that a value may read passes a test that none of those that it names passes
pub reads_none : (test : Cell → Bool) (lens : List ℕ) (e : E) → ValueNamedIn lens e → list_any test (cells_named e) ≡ false → EachRead (λ c. test c ≡ false) e
reads_none test lens (Literal n) named h = tt
reads_none test lens (CellAt c) named h = or_false_left (test c) false h
reads_none test lens (Apply o a b) named h =
    let both : (list_any test (cells_named a) || list_any test (cells_named b)) ≡ false = sym (list_any-append test (cells_named a) (cells_named b)) ∙ h in
    (reads_none test lens a named.0 (or_false_left _ _ both), reads_none test lens b named.1 (or_false_right _ _ both))
reads_none test lens (PickFrom s e) named h =
    let both : (list_any test (cells_of s) || list_any test (cells_named e)) ≡ false = sym (list_any-append test (cells_of s) (cells_named e)) ∙ h in (
      (λ k.
          let l : k % s.len < s.len = mod-lt k named.0.some in
          let z : 0 + k % s.len ≡ k % s.len = omega arith in
          ap (λ m. test (cell_at s m)) (sym z) ∙ section_none test (cell_at s) 0 s.len (k % s.len) (or_false_left _ _ both) l),
      reads_none test lens e named.1 (or_false_right _ _ both),
    )

read-each : {I : Type 0} (P : I → Cell → Type 0) (e : E) → ((i : I) → EachRead (P i) e) → EachRead (λ c. (i : I) → P i c) e
read-each P (Literal n) h = tt
read-each P (CellAt c) h = h
read-each P (Apply o a b) h = (read-each P a (λ i. (h i).0), read-each P b (λ i. (h i).1))
read-each P (PickFrom s e) h = (λ k i. (h i).0 k, read-each P e (λ i. (h i).1))

-- ---- touches

reads_harmless : (lens : List ℕ) (own : Declared) (opened : Openings) (children : Children) (e : E) → ValueNamedIn lens e
    → ((offence : Offence) → reading own opened children offence (cells_named e) ≡ false) → EachRead (λ c. IsHarmless own opened children (use_as Reads c)) e
reads_harmless lens own opened children e named h =
    read-each (λ offence c. may_break own opened children (Touch (use_as Reads c)) offence ≡ false) e
    (λ offence. reads_none (λ c. may_break own opened children (Touch (use_as Reads c)) offence) lens e named (h offence))

-- the sets and folds that come first
pub harmless : (lens : List ℕ) (own : Declared) (opened : Openings) (children : Children) (piece rest : Body) → AreAssigns piece → NamedIn lens piece
    → IsFine own opened children (append piece rest) → EachTouch (IsHarmless own opened children) piece
harmless lens own opened children End rest only named h = tt
harmless lens own opened children (Next (Set c e) more) rest only named h =
    let both : (offence : Offence) → (reading own opened children offence (cells_named e) || may_break own opened children (Touch (use_as Writes c)) offence) ≡ false =
    λ offence. sym (is_offence-Set own opened children c e offence) ∙ h.0 offence in (
      (
        reads_harmless lens own opened children e named.0.1 (λ offence. or_false_left _ _ (both offence)),
        λ offence. or_false_right _ _ (both offence),
      ),
      harmless lens own opened children more rest only named.1 h.2,
    )
harmless lens own opened children (Next (Fold o c e) more) rest only named h =
    let both : (offence : Offence) → (reading own opened children offence (cells_named e) || may_break own opened children (Touch (use_as (Folds o) c)) offence) ≡ false =
    λ offence. sym (is_offence-Fold own opened children o c e offence) ∙ h.0 offence in (
      (
        reads_harmless lens own opened children e named.0.1 (λ offence. or_false_left _ _ (both offence)),
        λ offence. or_false_right _ _ (both offence),
      ),
      harmless lens own opened children more rest only named.1 h.2,
    )
harmless lens own opened children (Next (If e a b) more) rest only named h = absurd only
harmless lens own opened children (Next (Task d b) more) rest only named h = absurd only
harmless lens own opened children (Next (Wait w) more) rest only named h = absurd only
harmless lens own opened children (Next (Group o cs b) more) rest only named h = absurd only

-- the condition of an `if` that comes next
pub harmless_if : (lens : List ℕ) (own : Declared) (opened : Openings) (children : Children) (e : E) (a b rest : Body) → ValueNamedIn lens e
    → IsFine own opened children (Next (If e a b) rest) → EachTouch (IsHarmless own opened children) (Next (If e End End) End)
harmless_if lens own opened children e a b rest named h =
    ((reads_harmless lens own opened children e named (λ offence. sym (is_offence-If own opened children e a b offence) ∙ h.0 offence), tt, tt), tt)

-- ---- who doesn't clash agrees

turned : (o p : Operation) → not (same_fold o p) ≡ false → not (same_fold p o) ≡ false
turned o p h = ap not ((fold-decides p o).1 (sym ((fold-decides o p).0 (not_false (same_fold o p) h))))

modes_agree : (declared one two : Mode) → covers declared two ≡ true → conflicts declared one ≡ false → conflicts one two ≡ false
modes_agree Writes Reads two cov none = cc
modes_agree Writes Writes two cov none = cc
modes_agree Writes (Folds p) two cov none = cc
modes_agree Reads Reads Reads cov none = refl
modes_agree Reads Reads Writes cov none = cc
modes_agree Reads Reads (Folds q) cov none = cc
modes_agree Reads Writes two cov none = cc
modes_agree Reads (Folds p) two cov none = cc
modes_agree (Folds o) (Folds p) (Folds q) cov none = subst (λ q. not (same_fold p q) ≡ false) ((fold-decides o q).0 cov) (turned o p none)
modes_agree (Folds o) (Folds p) Writes cov none = cc
modes_agree (Folds o) (Folds p) Reads cov none = cc
modes_agree (Folds o) Reads two cov none = cc
modes_agree (Folds o) Writes two cov none = cc

second_false : (a b : Bool) → a ≡ true → (a && b) ≡ false → b ≡ false
second_false true b h none = none
second_false false b h none = cc

-- a touch that clashes with nothing that a child declares agrees with all that the child may do
pub clash_free : (u v : Use) (uses : List Use) → clashes u uses ≡ false → allows (Some uses) v ≡ true → Agree u v
clash_free u v [] none may same = cc
clash_free u v (d ∷ uses) none may same =
    elim (or_true (same_cell d.cell v.cell && covers d.mode v.mode) (list_any (λ d. same_cell d.cell v.cell && covers d.mode v.mode) uses) may) [
      | inl here ↦
          let is : d.cell ≡ u.cell = same_is d.cell v.cell (and_left (same_cell d.cell v.cell) (covers d.mode v.mode) here) ∙ sym same in
          let at : same_cell d.cell u.cell ≡ true = ap (λ c. same_cell c u.cell) is ∙ same_itself u.cell in
          modes_agree d.mode u.mode v.mode (and_right (same_cell d.cell v.cell) (covers d.mode v.mode) here)
          (second_false (same_cell d.cell u.cell) (conflicts d.mode u.mode) at (or_false_left (same_cell d.cell u.cell && conflicts d.mode u.mode) (clashes u uses) none))
      | inr later ↦ clash_free u v uses (or_false_right (same_cell d.cell u.cell && conflicts d.mode u.mode) (clashes u uses) none) later same
    ]
