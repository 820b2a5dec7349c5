-- A use more in a declaration.
use Rattle.std.proofs.Common.{◌≡◌, ◌∙◌, if◌then◌else◌, subst, ℕ, suc, List, [], ◌∷◌, Bool, true, false, refl, sym, ap, arith}
use Rattle.std.specs.Prelude.{Option, Some, None, slice_get, Result, Ok, Err, IfOk}
use Rattle.std.proofs.lemmas.Bool.Decides.{nat_tests}
use Rattle.ot_model.specs.declared.expr.Cell.{Cell}
use Rattle.ot_model.specs.declared.stmt.Use.{Use}
use Rattle.ot_model.specs.Cells.{is_before, same_cell, Precedes, AreInOrder}
use Rattle.ot_model.proofs.OrderLemmas.{precedes_from_before}
use Rattle.ot_parts.specs.Modes.{use_as}
use Rattle.ot_exec_state.specs.Clauses.{both, before, with_use, use_placed}
use Rattle.ot_exec_state.specs.Results.{Gives}
use Rattle.ot_exec_state.specs.declared.fault.Halt.{Halt}
use Rattle.ot_exec_state.specs.declared.fault.Reason.{Reason}

-- the one of two cells that is not before the other, nor the same, is behind it
pub behind : (c d : Cell) → is_before c d ≡ false → same_cell c d ≡ false → Precedes d c
behind c d first same =
    let there : is_before d c ≡ true = grind (arith, nat_tests) in
    precedes_from_before d c there

-- ---- order is kept

replaced : (a b : Use) (us : List Use) → b.cell ≡ a.cell → AreInOrder (a ∷ us) → AreInOrder (b ∷ us)
replaced a b [] same order = tt
replaced a b (v ∷ vs) same order = (subst (λ (c : Cell). Precedes c v.cell) (sym same) order.0, order.1)

in_front : (a u v : Use) (vs : List Use) → Precedes a.cell u.cell → AreInOrder (a ∷ v ∷ vs) → (b s : Bool) → is_before v.cell u.cell ≡ b → same_cell v.cell u.cell ≡ s
    → (Precedes v.cell u.cell → AreInOrder (v ∷ with_use u vs)) → AreInOrder (a ∷ with_use u (v ∷ vs))
in_front a u v vs first order true s is same more = rw is (order.0, more (precedes_from_before v.cell u.cell is))
in_front a u v vs first order false true is same more = rw (is, same) (order.0, replaced v (use_as (both v.mode u.mode) v.cell) vs refl order.1)
in_front a u v vs first order false false is same more = rw (is, same) (first, (behind v.cell u.cell is same, order.1))

more_behind : (a u : Use) (us : List Use) → Precedes a.cell u.cell → AreInOrder (a ∷ us) → AreInOrder (a ∷ with_use u us)
more_behind a u [] first order = (first, tt)
more_behind a u (v ∷ vs) first order =
    in_front a u v vs first order (is_before v.cell u.cell) (same_cell v.cell u.cell) refl refl (λ h. more_behind v u vs h order.1)

at_front : (u v : Use) (vs : List Use) → AreInOrder (v ∷ vs) → (b s : Bool) → is_before v.cell u.cell ≡ b → same_cell v.cell u.cell ≡ s → AreInOrder (with_use u (v ∷ vs))
at_front u v vs order true s is same = rw is (more_behind v u vs (precedes_from_before v.cell u.cell is) order)
at_front u v vs order false true is same = rw (is, same) (replaced v (use_as (both v.mode u.mode) v.cell) vs refl order)
at_front u v vs order false false is same = rw (is, same) (behind v.cell u.cell is same, order)

pub order_kept : (u : Use) (us : List Use) → AreInOrder us → AreInOrder (with_use u us)
order_kept u [] order = tt
order_kept u (v ∷ vs) order = at_front u v vs order (is_before v.cell u.cell) (same_cell v.cell u.cell) refl refl

-- ---- by its place

at_front_place : (u v : Use) (vs : List Use) (s : Bool) → same_cell v.cell u.cell ≡ s
    → (if same_cell v.cell u.cell then use_as (both v.mode u.mode) v.cell ∷ vs else u ∷ v ∷ vs) ≡ use_placed u (v ∷ vs) 0 (Some v)
at_front_place u v vs true is = rw is refl
at_front_place u v vs false is = rw is refl

one_later : (u v : Use) (vs : List Use) (n : ℕ) (found : Option Use) → v ∷ use_placed u vs n found ≡ use_placed u (v ∷ vs) (suc n) found
one_later u v vs n None = refl
one_later u v vs n (Some w) = by_test (same_cell w.cell u.cell) refl
  where
    by_test : (s : Bool) → same_cell w.cell u.cell ≡ s → v ∷ use_placed u vs n (Some w) ≡ use_placed u (v ∷ vs) (suc n) (Some w)
    by_test true is = rw is refl
    by_test false is = rw is refl

by_place_at : (u v : Use) (vs : List Use) (b : Bool) → is_before v.cell u.cell ≡ b → with_use u vs ≡ use_placed u vs (before u.cell vs) (slice_get vs (before u.cell vs))
    → with_use u (v ∷ vs) ≡ use_placed u (v ∷ vs) (before u.cell (v ∷ vs)) (slice_get (v ∷ vs) (before u.cell (v ∷ vs)))
by_place_at u v vs true is ih = rw is (ap (λ ws. v ∷ ws) ih ∙ one_later u v vs (before u.cell vs) (slice_get vs (before u.cell vs)))
by_place_at u v vs false is ih = rw is (at_front_place u v vs (same_cell v.cell u.cell) refl)

pub by_place : (u : Use) (us : List Use) → with_use u us ≡ use_placed u us (before u.cell us) (slice_get us (before u.cell us))
by_place u [] = refl
by_place u (v ∷ vs) = by_place_at u v vs (is_before v.cell u.cell) refl (by_place u vs)

-- what a declaration becomes is in order where it becomes this
ok_same : (xs ys : List Use) (r : Result (List Use) Reason) → r ≡ Ok xs → r ≡ Ok ys → xs ≡ ys
ok_same xs ys r g h = cc

pub still_in_order : (r : Result (Unit {0}) Halt) (new want : List Use) → Gives (λ u. new) r (Ok want) → AreInOrder want → IfOk r (λ u. AreInOrder new)
still_in_order (Ok u) new want told order = subst AreInOrder (ok_same want new (Ok want) refl told) order
still_in_order (Err e) new want told order = tt
