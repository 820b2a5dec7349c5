-- Assignments on lent copies, step by step.
use Rattle.std.proofs.Common.{◌≡◌, ◌<◌, ℕ, zero, suc, List, [], ◌∷◌, length, get_or, refl, sym, ap, ◌∙◌, arith}
use Rattle.std.specs.Prelude.{Some, IsSome, slice_get, option_map, if◌then◌else◌}
use Rattle.std.proofs.lemmas.Option.{same_Some}
use Rattle.ot_model.specs.Tree.{E, Literal, CellAt, Apply, PickFrom, Set, Fold, If, Task, Wait, Group, Body, End, Next, val, HasAll}
use Rattle.ot_model.specs.Joining.{join_by}
use Rattle.ot_model.specs.declared.expr.Cell.{Cell}
use Rattle.ot_model.specs.declared.stmt.Use.{Use}
use Rattle.ot_model.specs.Cells.{same_cell}
use Rattle.ot_check.proofs.Cited.{value-same, read-weaker}
use Rattle.ot_owner.specs.Lending.{MayChange, uses_of, use_of, Lease, lease_of}
use Rattle.ot_owner.specs.declared.lent.LentCell.{LentCell}
use Rattle.ot_job_task.specs.Copies.{Look, with_copy, copies_assigned}
use Rattle.ot_check.specs.Offences.{EachRead}

pub read-all : (P : Cell → Type 0) → ((c : Cell) → P c) → (e : E) → EachRead P e
read-all P h e = read-weaker (λ c. Unit {0}) P e (λ c u. h c) (units e)
  where
    units : (e : E) → EachRead (λ c. Unit {0}) e
    units (Literal n) = tt
    units (CellAt c) = tt
    units (Apply o a b) = (units a, units b)
    units (PickFrom s e) = (λ k. tt, units e)

-- looks that are the same at each cell
pub assigned-same : (b : Body) (look other : Look) → ((c : Cell) → look c ≡ other c) → (c : Cell) → copies_assigned b look c ≡ copies_assigned b other c
assigned-same End look other same c = same c
assigned-same (Next (Set d e) rest) look other same c =
    let v = value-same look other e (read-all (λ x. look x ≡ other x) same e) in
    assigned-same rest (with_copy look d (λ _. val look e)) (with_copy other d (λ _. val other e))
    (λ x. ap (λ n. with_copy look d (λ _. n) x) v ∙ ap (λ o. if same_cell d x then option_map (λ _. val other e) o else o) (same x)) c
assigned-same (Next (Fold o d e) rest) look other same c =
    let v = value-same look other e (read-all (λ x. look x ≡ other x) same e) in
    assigned-same rest (with_copy look d (λ n. join_by o n (val look e))) (with_copy other d (λ n. join_by o n (val other e)))
    (λ x. ap (λ w. with_copy look d (λ n. join_by o n w) x) v ∙ ap (λ s. if same_cell d x then option_map (λ n. join_by o n (val other e)) s else s) (same x)) c
assigned-same (Next (If e a b) rest) look other same c = same c
assigned-same (Next (Task d b) rest) look other same c = same c
assigned-same (Next (Wait w) rest) look other same c = same c
assigned-same (Next (Group o cs b) rest) look other same c = same c

pub all-kept : (look now : Look) (e : E) → ((c : Cell) → IsSome (look c) → IsSome (now c)) → HasAll look e → HasAll now e
all-kept look now (Literal n) kept h = tt
all-kept look now (CellAt c) kept h = kept c h
all-kept look now (Apply o a b) kept h = (all-kept look now a kept h.0, all-kept look now b kept h.1)
all-kept look now (PickFrom s e) kept h = (h.0, h.1, (λ k l. kept _ (h.2 k l)), all-kept look now e kept h.3)

-- what may be changed is told by the uses
pub change-kept : (lent now : List LentCell) (c : Cell) → lease_of now ≡ lease_of lent → MayChange lent c → MayChange now c
change-kept lent now c same (k, l, within, is, both) = found now k (ap (λ (x : Lease). x.uses) same) within is
  where
    uses-at : (xs : List LentCell) (k : ℕ) (l : LentCell) → k < length xs → get_or xs k l ≡ l → slice_get (uses_of xs) k ≡ Some (use_of l)
    uses-at [] k l w e = absurd (omega (arith, w))
    uses-at (x ∷ xs) zero l w e = ap (λ (y : LentCell). Some (use_of y)) e
    uses-at (x ∷ xs) (suc k) l w e = uses-at xs k l (omega (arith, w)) e

    any-at : (xs : List LentCell) (k : ℕ) → slice_get (uses_of xs) k ≡ Some (use_of l) → MayChange xs c
    any-at [] k e = cc
    any-at (x ∷ xs) zero e =
        let one : use_of x ≡ use_of l = same_Some (use_of x) (use_of l) e in
        (0, x, omega arith, refl, (ap (λ (u : Use). u.cell) one ∙ both.0, λ r. both.1 (sym (ap (λ (u : Use). u.mode) one) ∙ r)))
    any-at (x ∷ xs) (suc k) e = let g = any-at xs k e in (suc g.0, g.1, omega (arith, g.2), g.3, g.4)

    found : (now : List LentCell) (k : ℕ) → uses_of now ≡ uses_of lent → k < length lent → get_or lent k l ≡ l → MayChange now c
    found now k e w i = any-at now k (ap (λ us. slice_get us k) e ∙ uses-at lent k l w i)
