-- Modes that fold, and what a declaration lets a body fold.
use Rattle.std.proofs.Common.{◌≡◌, Bool, true, false, not, ◌&&◌, List, [], ◌∷◌, refl, sym, ap, subst, ◌∙◌, inl, inr, true≢false, Some, None, ◌||◌}
use Rattle.ot_job.proofs.Common.{false_from_ne_true, same_cell, conflicts, same_fold, Cell, Operation, Mode, Reads, Writes, Folds, Use, use_as, Declared, allows, covers, folds_by, folds_to, or_true, or_false_left, or_false_right, not_false, OnlyFolds, list_any, Precedes, AreInOrder, and_left, and_right, same_is}
use Rattle.ot_model.proofs.EqualLemmas.{fold-decides}
use Rattle.ot_check.proofs.Cited.{any-more, folded, conflicts_folds, one_op}
use Rattle.ot_check.proofs.Bits.{or_more}
use Rattle.ot_model.proofs.OrderLemmas.{precedes_trans, precedes_apart, rest_in_order}

-- ---- modes that fold, and what a declaration lets a body fold

-- ---- operations

pub one-op : (o p : Operation) → same_fold o p ≡ true → o ≡ p
one-op o p h = (fold-decides o p).0 h

pub same-op : (o : Operation) → same_fold o o ≡ true
same-op o = (fold-decides o o).1 refl

-- ---- two modes

pub agrees-before : (o : Operation) (m : Mode) → conflicts m (Folds o) ≡ false → m ≡ Folds o
agrees-before o (Folds p) h = ap Folds (one-op p o (not_false (same_fold p o) h))
agrees-before o m h = absurd (true≢false h)

pub agrees-itself : (o : Operation) → conflicts (Folds o) (Folds o) ≡ false
agrees-itself o = ap not (same-op o)

-- two folds by one operation don't conflict
pub both-fold : (o : Operation) (m n : Mode) → m ≡ Folds o → n ≡ Folds o → conflicts m n ≡ false
both-fold o m n p q = ap (λ (k : Mode). conflicts k n) p ∙ ap (conflicts (Folds o)) q ∙ agrees-itself o

pub turned : (m n : Mode) → conflicts m n ≡ false → conflicts n m ≡ false
turned (Folds o) n h = both-fold o n (Folds o) (conflicts_folds o n h) refl
turned Reads Reads h = h
turned Writes Writes h = h
turned m n h = h

-- what a declared fold covers is a fold by the same operation
pub covered-fold : (o : Operation) (m : Mode) → covers (Folds o) m ≡ true → m ≡ Folds o
covered-fold o (Folds p) h = ap Folds (sym (one-op o p h))
covered-fold o m h = absurd (true≢false (sym h))

-- ---- declarations

-- who may write a cell may do anything with it
writes-any : (uses : List Use) (c : Cell) (m : Mode) → allows (Some uses) (use_as Writes c) ≡ true → allows (Some uses) (use_as m c) ≡ true
writes-any uses c m may =
    any-more (λ d. same_cell d.cell c && covers d.mode Writes) (λ d. same_cell d.cell c && covers d.mode m) uses (λ d. one (same_cell d.cell c) d.mode) may
  where
    one : (b : Bool) (n : Mode) → (b && covers n Writes) ≡ true → (b && covers n m) ≡ true
    one true Writes h = refl
    one b n h = absurd (true≢false (sym h))

pub writes-all : (own : Declared) (c : Cell) (m : Mode) → allows own (use_as Writes c) ≡ true → allows own (use_as m c) ≡ true
writes-all None c m may = refl
writes-all (Some uses) c m may = writes-any uses c m may

-- some use passes the first test and none the second: so that some use passes the third
pub any-but : (f n g : Use → Bool) (uses : List Use) → ((u : Use) → f u ≡ true → n u ≡ false → g u ≡ true) → list_any f uses ≡ true → list_any n uses ≡ false → list_any g uses ≡ true
any-but f n g [] w h k = h
any-but f n g (u ∷ uses) w h k =
    or_more (f u) (list_any f uses) (g u) (list_any g uses) (λ e. w u e (or_false_left (n u) (list_any n uses) k)) (λ e. any-but f n g uses w e (or_false_right (n u) (list_any n uses) k)) h

-- who may fold, and not read, declares the fold
pub declares-fold : (uses : List Use) (o : Operation) (c : Cell) → allows (Some uses) (use_as (Folds o) c) ≡ true → allows (Some uses) (use_as Reads c) ≡ false → folds_to (Some uses) o c ≡ true
declares-fold uses o c may none =
    any-but (λ d. same_cell d.cell c && covers d.mode (Folds o)) (λ d. same_cell d.cell c && covers d.mode Reads) (λ d. same_cell d.cell c && folds_by o d.mode) uses
    (λ d. one (same_cell d.cell c) d.mode) may none
  where
    one : (b : Bool) (m : Mode) → (b && covers m (Folds o)) ≡ true → (b && covers m Reads) ≡ false → (b && folds_by o m) ≡ true
    one true Writes h g = absurd (true≢false g)
    one true (Folds p) h g = h
    one b m h g = absurd (true≢false (sym h))

-- ---- cells that are folded and not used otherwise

-- such a cell is folded by one operation
pub held-alike : (own : Declared) (c : Cell) → ((o : Operation) → folds_to own o c ≡ true → OnlyFolds o own c)
    → (o p : Operation) → folds_to own o c ≡ true → folds_to own p c ≡ true → o ≡ p
held-alike own c only o p h g = sym (one_op p o (only o h (Folds p) (folded own p c g)))

-- it isn't read
pub only-unread : (o : Operation) (own : Declared) (c : Cell) → OnlyFolds o own c → allows own (use_as Reads c) ≡ true → ⊥
only-unread o own c only may = let e : Reads ≡ Folds o = only Reads may in cc

-- nor written
pub only-unwritten : (o : Operation) (own : Declared) (c : Cell) → OnlyFolds o own c → allows own (use_as Writes c) ≡ true → ⊥
only-unwritten o own c only may = let e : Writes ≡ Folds o = only Writes may in cc

-- whatever the body may do with it, it declares to fold it
pub only-declares : (uses : List Use) (o : Operation) (c : Cell) → OnlyFolds o (Some uses) c → (m : Mode) → allows (Some uses) (use_as m c) ≡ true → folds_to (Some uses) o c ≡ true
only-declares uses o c only m may =
    declares-fold uses o c (subst (λ (n : Mode). allows (Some uses) (use_as n c) ≡ true) (only m may) may)
    (false_from_ne_true (allows (Some uses) (use_as Reads c)) (only-unread o (Some uses) c only))

-- ---- what a declaration in order lets a body do with a cell that it folds

skip : (u v : Use) (us : List Use) → AreInOrder (u ∷ v ∷ us) → AreInOrder (u ∷ us)
skip u v [] order = tt
skip u v (w ∷ us) (first, (second, later)) = (precedes_trans u.cell v.cell w.cell first second, later)

other_cell : (c d : Cell) → Precedes c d → (test : Bool) → (same_cell d c && test) ≡ false
other_cell c d before test = ap (λ b. b && test) (false_from_ne_true (same_cell d c) (λ e. precedes_apart c d before (sym (same_is d c e))))

-- no later use is of the same cell
behind_none : (u : Use) (us : List Use) (test : Use → Bool) → AreInOrder (u ∷ us) → list_any (λ d. same_cell d.cell u.cell && test d) us ≡ false
behind_none u [] test order = refl
behind_none u (v ∷ us) test (before, later) =
    ap (λ b. b || list_any (λ d. same_cell d.cell u.cell && test d) us) (other_cell u.cell v.cell before (test v))
    ∙ behind_none u us test (skip u v us (before, later))

-- a cell that it folds it uses in no other way
pub folds-alone : (uses : List Use) → AreInOrder uses → (o : Operation) (c : Cell) → folds_to (Some uses) o c ≡ true → OnlyFolds o (Some uses) c
folds-alone [] order o c folds m may = absurd (true≢false (sym folds))
folds-alone (u ∷ us) order o c folds m may =
    elim (or_true (same_cell u.cell c && folds_by o u.mode) (folds_to (Some us) o c) folds) [
      | inl here ↦
          let same = same_is u.cell c (and_left (same_cell u.cell c) (folds_by o u.mode) here) in
          let none = subst (λ d. list_any (λ v. same_cell v.cell d && covers v.mode m) us ≡ false) same (behind_none u us (λ v. covers v.mode m) order) in
          only u.mode (and_right (same_cell u.cell c) (folds_by o u.mode) here) (either (same_cell u.cell c) (covers u.mode m) (allows (Some us) (use_as m c)) none may)
      | inr later ↦
          folds-alone us (rest_in_order u us order) o c later m
          (rest (same_cell u.cell c) (covers u.mode m) (allows (Some us) (use_as m c)) (elsewhere (same_cell u.cell c) refl later) may)
    ]
  where
    only : (n : Mode) → folds_by o n ≡ true → covers n m ≡ true → m ≡ Folds o
    only (Folds p) h g = covered-fold p m g ∙ ap Folds (one-op p o h)
    only n h g = absurd (true≢false (sym h))

    either : (a b more : Bool) → more ≡ false → ((a && b) || more) ≡ true → b ≡ true
    either true true more none h = refl
    either a b more none h = absurd (true≢false (sym h ∙ none))

    rest : (a b more : Bool) → a ≡ false → ((a && b) || more) ≡ true → more ≡ true
    rest true b more none h = absurd (true≢false none)
    rest false b more none h = h

    elsewhere : (same : Bool) → same_cell u.cell c ≡ same → folds_to (Some us) o c ≡ true → same_cell u.cell c ≡ false
    elsewhere false e later = e
    elsewhere true e later =
        absurd (true≢false (sym later ∙ subst (λ d. list_any (λ v. same_cell v.cell d && folds_by o v.mode) us ≡ false) (same_is u.cell c e) (behind_none u us (λ v. folds_by o v.mode) order)))
