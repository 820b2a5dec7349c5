-- Cells in order, as pairs of an array and a place.
use Rattle.std.proofs.Common.{◌≡◌, ℕ, ◌==◌, List, [], ◌∷◌, Bool, true, false, if◌then◌else◌, map, Ordering, refl, ap, ◌∙◌}
use Rattle.std.specs.Prelude.{nat_lt}
use Rattle.std.specs.Ordering.{nat_cmp, ordering_then, match_ordering}
use Rattle.std.specs.BTreeSet.{insert_key}
use Rattle.ot_model.specs.Cells.{is_before, same_cell}
use Rattle.ot_model.specs.declared.expr.Cell.{Cell}
use Rattle.ot_show_c.specs.Statements.{cell_of_pair, cell_in_order, put_all}

abbrev pub order : ℕ × ℕ → ℕ × ℕ → Ordering
order k x = ordering_then (nat_cmp k.0 x.0) (nat_cmp k.1 x.1)

choice : (k x : ℕ × ℕ) (a b c : List (ℕ × ℕ)) (l0 e0 l1 e1 : Bool) → nat_lt k.0 x.0 ≡ l0 → (k.0 == x.0) ≡ e0 → nat_lt k.1 x.1 ≡ l1 → (k.1 == x.1) ≡ e1
    → map cell_of_pair (match_ordering (order k x) a b c) ≡ (if is_before (cell_of_pair k) (cell_of_pair x) then map cell_of_pair a else (if same_cell (cell_of_pair k) (cell_of_pair x) then map cell_of_pair b else map cell_of_pair c))
choice k x a b c true e0 l1 e1 p q r s = rw p refl
choice k x a b c false false l1 e1 p q r s = rw (p, q) refl
choice k x a b c false true true e1 p q r s = rw (p, q, r) refl
choice k x a b c false true false true p q r s = rw (p, q, r, s) refl
choice k x a b c false true false false p q r s = rw (p, q, r, s) refl

-- a pair that is inserted is a cell that is put in its place
pub put_pair : (ks : List (ℕ × ℕ)) (k : ℕ × ℕ) → map cell_of_pair (insert_key order ks k) ≡ cell_in_order (map cell_of_pair ks) (cell_of_pair k)
put_pair [] k = refl
put_pair (x ∷ xs) k =
    choice k x (k ∷ x ∷ xs) (x ∷ xs) (x ∷ insert_key order xs k) (nat_lt k.0 x.0) (k.0 == x.0) (nat_lt k.1 x.1) (k.1 == x.1) refl refl refl refl
    ∙ ap (λ t. if is_before (cell_of_pair k) (cell_of_pair x) then cell_of_pair k ∷ cell_of_pair x ∷ map cell_of_pair xs else (if same_cell (cell_of_pair k) (cell_of_pair x) then cell_of_pair x ∷ map cell_of_pair xs else cell_of_pair x ∷ t)) (put_pair xs k)

-- cells that are left are put among those in order one after the other
pub put_step : (old new : List (ℕ × ℕ)) (k : ℕ × ℕ) (c : Cell) (cs all : List Cell) → new ≡ insert_key order old k → cell_of_pair k ≡ c → put_all (map cell_of_pair old) (c ∷ cs) ≡ all → put_all (map cell_of_pair new) cs ≡ all
put_step old new k c cs all keys is rest =
    ap (λ ks. put_all (map cell_of_pair ks) cs) keys ∙ ap (λ ds. put_all ds cs) (put_pair old k ∙ ap (cell_in_order (map cell_of_pair old)) is) ∙ rest
