-- What clauses name doesn't hang on how they stand to each other.
use Rattle.std.proofs.Common.{◌≡◌, ℕ, zero, suc, ◌<◌, Bool, true, false, cond, List, [], ◌∷◌, ◌++◌, map, length, get_or, Option, Some, None, refl, sym, ap, subst, ◌∙◌, arith, append-nil}
use Rattle.std.specs.Prelude.{IsPermutation, Contains}
use Rattle.std.specs.List.{fold, AllByRecursion}
use Rattle.std.specs.List.Sorted.{IsStrictlySortedBy}
use Rattle.std.specs.Map.{lookup, keys_of}
use Rattle.std.specs.BTreeMap.{is_at}
use Rattle.std.proofs.lemmas.List.Elements.{All-contains_itself, recursion_from_All}
use Rattle.std.proofs.lemmas.List.Sorted.{All-permutation, IsPermutation-sym, IsPermutation-map}
use Rattle.ot_model.specs.declared.expr.Cell.{Cell}
use Rattle.ot_model.specs.declared.fold.Fold.{Fold}
use Rattle.ot_model.specs.declared.stmt.Mode.{Mode}
use Rattle.ot_model.specs.declared.stmt.Mode.TheVariants.{Reads, Writes, Folds}
use Rattle.ot_model.specs.Cells.{same_fold}
use Rattle.ot_model.specs.Tree.{cells_of}
use Rattle.ot_model.proofs.EqualLemmas.{fold-decides}
use Rattle.ot_program.specs.Meanings.{names, Clause}
use Rattle.ot_program.specs.declared.clause.Clause.{Clause as CodeClause}
use Rattle.ot_program.specs.walk.Namings.{cell_order, Named, together, with_mode, name_clause}
use Rattle.ot_program.proofs.CellLists.{cell_of_key}
use Rattle.ot_program.proofs.Coded.{code_clause}
use Rattle.ot_program.proofs.Declared.{mode_at, again, after, clauses_named}
use Rattle.ot_program.proofs.KeyOrder.{Sorted, all_sorted_named, same_entries, strictly_sorted}

-- ---- one clause more: twice is once, and two come in any order

-- what is collected of a cell, with one clause more
abbrev step : Cell → Option (Option Mode) → Clause → Option (Option Mode)
step c s k = cond (names c k) (Some (with_mode s k.mode)) s

two_folds : (a b : Fold) (x y : Bool) → same_fold a b ≡ x → same_fold b a ≡ y → cond x (Some (Folds a)) None ≡ cond y (Some (Folds b)) None
two_folds a b true true p q = ap (λ (o : Fold). Some (Folds o)) ((fold-decides a b).0 p)
two_folds a b true false p q = let h : true ≡ false = sym ((fold-decides b a).1 (sym ((fold-decides a b).0 p))) ∙ q in cc
two_folds a b false true p q = let h : true ≡ false = sym ((fold-decides a b).1 (sym ((fold-decides b a).0 q))) ∙ p in cc
two_folds a b false false p q = refl

three_folds : (a b c : Fold) (x y : Bool) → same_fold a b ≡ x → same_fold a c ≡ y
    → together (cond x (Some (Folds a)) None) (Folds c) ≡ together (cond y (Some (Folds a)) None) (Folds b)
three_folds a b c true true p q = rw (p, q) refl
three_folds a b c true false p q = rw q refl
three_folds a b c false true p q = rw p refl
three_folds a b c false false p q = refl

fold_other : (a b : Fold) (x : Bool) (m : Mode) → together (Some (Folds a)) m ≡ None → together (cond x (Some (Folds a)) None) m ≡ None
fold_other a b true m h = h
fold_other a b false m h = refl

either_way : (s : Option (Option Mode)) (m n : Mode) → with_mode (Some (with_mode s m)) n ≡ with_mode (Some (with_mode s n)) m
either_way None Reads Reads = refl
either_way None Reads Writes = refl
either_way None Reads (Folds b) = refl
either_way None Writes Reads = refl
either_way None Writes Writes = refl
either_way None Writes (Folds b) = refl
either_way None (Folds a) Reads = refl
either_way None (Folds a) Writes = refl
either_way None (Folds a) (Folds b) = two_folds a b (same_fold a b) (same_fold b a) refl refl
either_way (Some None) m n = refl
either_way (Some (Some Reads)) Reads Reads = refl
either_way (Some (Some Reads)) Reads Writes = refl
either_way (Some (Some Reads)) Reads (Folds b) = refl
either_way (Some (Some Reads)) Writes Reads = refl
either_way (Some (Some Reads)) Writes Writes = refl
either_way (Some (Some Reads)) Writes (Folds b) = refl
either_way (Some (Some Reads)) (Folds a) Reads = refl
either_way (Some (Some Reads)) (Folds a) Writes = refl
either_way (Some (Some Reads)) (Folds a) (Folds b) = refl
either_way (Some (Some Writes)) Reads Reads = refl
either_way (Some (Some Writes)) Reads Writes = refl
either_way (Some (Some Writes)) Reads (Folds b) = refl
either_way (Some (Some Writes)) Writes Reads = refl
either_way (Some (Some Writes)) Writes Writes = refl
either_way (Some (Some Writes)) Writes (Folds b) = refl
either_way (Some (Some Writes)) (Folds a) Reads = refl
either_way (Some (Some Writes)) (Folds a) Writes = refl
either_way (Some (Some Writes)) (Folds a) (Folds b) = refl
either_way (Some (Some (Folds o))) Reads Reads = refl
either_way (Some (Some (Folds o))) Reads Writes = refl
either_way (Some (Some (Folds o))) Reads (Folds b) = sym (fold_other o b (same_fold o b) Reads refl)
either_way (Some (Some (Folds o))) Writes Reads = refl
either_way (Some (Some (Folds o))) Writes Writes = refl
either_way (Some (Some (Folds o))) Writes (Folds b) = sym (fold_other o b (same_fold o b) Writes refl)
either_way (Some (Some (Folds o))) (Folds a) Reads = fold_other o a (same_fold o a) Reads refl
either_way (Some (Some (Folds o))) (Folds a) Writes = fold_other o a (same_fold o a) Writes refl
either_way (Some (Some (Folds o))) (Folds a) (Folds b) = three_folds o a b (same_fold o a) (same_fold o b) refl refl

swap_by : (s : Option (Option Mode)) (m n : Mode) (a b : Bool)
    → cond b (Some (with_mode (cond a (Some (with_mode s m)) s) n)) (cond a (Some (with_mode s m)) s)
    ≡ cond a (Some (with_mode (cond b (Some (with_mode s n)) s) m)) (cond b (Some (with_mode s n)) s)
swap_by s m n true true = ap Some (either_way s m n)
swap_by s m n true false = refl
swap_by s m n false true = refl
swap_by s m n false false = refl

swapped : (c : Cell) (s : Option (Option Mode)) (x y : Clause) → step c (step c s x) y ≡ step c (step c s y) x
swapped c s x y = swap_by s x.mode y.mode (names c x) (names c y)

once_by : (s : Option (Option Mode)) (m : Mode) (b : Bool)
    → cond b (Some (with_mode (cond b (Some (with_mode s m)) s) m)) (cond b (Some (with_mode s m)) s) ≡ cond b (Some (with_mode s m)) s
once_by s m true = ap Some (again s m)
once_by s m false = refl

-- ---- so only which clauses there are counts

-- a clause that stands among the others may come first, too
absorbed : (c : Cell) (ks : List Clause) (s : Option (Option Mode)) (x : Clause) (i : ℕ) → i < length ks → get_or ks i x ≡ x
    → after (step c s x) ks c ≡ after s ks c
absorbed c [] s x i lt is = absurd (omega (arith, lt))
absorbed c (k ∷ ks) s x zero lt is =
    ap (λ (t : Option (Option Mode)). after t ks c) (ap (step c (step c s x)) is ∙ once_by s x.mode (names c x) ∙ ap (step c s) (sym is))
absorbed c (k ∷ ks) s x (suc i) lt is =
    ap (λ (t : Option (Option Mode)). after t ks c) (swapped c s x k) ∙ absorbed c ks (step c s k) x i (omega (arith, lt)) is

all_absorbed : (c : Cell) (xs ys : List Clause) (s : Option (Option Mode)) → AllByRecursion (Contains ys) xs → after s (xs ++ ys) c ≡ after s ys c
all_absorbed c [] ys s h = refl
all_absorbed c (x ∷ xs) ys s h = all_absorbed c xs ys (step c s x) h.1 ∙ absorbed c ys s x h.0.0 h.0.1 h.0.2

to_front : (c : Cell) (xs : List Clause) (y : Clause) (ys : List Clause) (s : Option (Option Mode)) → after s (xs ++ y ∷ ys) c ≡ after (step c s y) (xs ++ ys) c
to_front c [] y ys s = refl
to_front c (x ∷ xs) y ys s =
    to_front c xs y ys (step c s x) ∙ ap (λ (t : Option (Option Mode)). after t (xs ++ ys) c) (swapped c s x y)

turned : (c : Cell) (xs ys : List Clause) (s : Option (Option Mode)) → after s (xs ++ ys) c ≡ after s (ys ++ xs) c
turned c [] ys s = ap (λ (ks : List Clause). after s ks c) (sym (append-nil ys))
turned c (x ∷ xs) ys s = turned c xs ys (step c s x) ∙ sym (to_front c ys x xs s)

same_after : (c : Cell) (xs ys : List Clause) (s : Option (Option Mode)) → AllByRecursion (Contains ys) xs → AllByRecursion (Contains xs) ys
    → after s xs c ≡ after s ys c
same_after c xs ys s h k = sym (all_absorbed c ys xs s k) ∙ turned c ys xs s ∙ all_absorbed c xs ys s h

-- ---- in the types of the code

abbrev meant : CodeClause → Clause
meant c = record { mode = c.mode; section = c.section }

code_meant : (ks : List CodeClause) → map code_clause (map meant ks) ≡ ks
code_meant [] = refl
code_meant (k ∷ ks) = ap (λ (rest : List CodeClause). k ∷ rest) (code_meant ks)

contained : (xs ys : List Clause) → IsPermutation xs ys → AllByRecursion (Contains xs) ys
contained xs ys h = recursion_from_All (Contains xs) ys (All-permutation (Contains xs) xs ys h (All-contains_itself xs))

found_as : (ks : List CodeClause) (q : ℕ × ℕ) → mode_at q (fold name_clause [] ks) ≡ after None (map meant ks) (cell_of_key q)
unfolding mode_at
found_as ks q =
    ap (λ (cs : List CodeClause). lookup (is_at (cell_order q)) (fold name_clause [] cs)) (sym (code_meant ks))
    ∙ clauses_named (cell_of_key q) (map meant ks) []

pub clauses_sorted : (ks : List CodeClause) (es : Named) → Sorted (keys_of es) → Sorted (keys_of (fold name_clause es ks))
clauses_sorted [] es s = s
clauses_sorted (k ∷ ks) es s = clauses_sorted ks (name_clause es k) (all_sorted_named k.mode (cells_of k.section) es s)

none_sorted : Sorted []
unfolding Sorted
none_sorted = tt

-- clauses in another order name the same
pub any_order : (xs ys : List CodeClause) → IsPermutation xs ys → fold name_clause [] ys ≡ fold name_clause [] xs
any_order xs ys h =
    let there = IsPermutation-map meant xs ys h in
    let back = IsPermutation-sym (map meant xs) (map meant ys) there in
    same_entries (fold name_clause [] ys) (fold name_clause [] xs) (clauses_sorted ys [] none_sorted) (clauses_sorted xs [] none_sorted)
    (λ q. found_as ys q ∙ same_after (cell_of_key q) (map meant ys) (map meant xs) None (contained (map meant xs) (map meant ys) there) (contained (map meant ys) (map meant xs) back) ∙ sym (found_as xs q))

pub clauses_strict : (ks : List CodeClause) (es : Named) → es ≡ fold name_clause [] ks → IsStrictlySortedBy cell_order (keys_of es)
clauses_strict ks es is =
    strictly_sorted (keys_of es) (subst (λ (xs : Named). Sorted (keys_of xs)) (sym is) (clauses_sorted ks [] none_sorted))
