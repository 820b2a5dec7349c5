use Rattle.std.proofs.Common.{◌≡◌, ◌≢◌, ◌<◌, ◌≤◌, ℕ, length, get_or, set, Some, true≢false, sym, ap, subst, ◌∙◌, arith}
use Rattle.std.specs.Prelude.{None, if◌then◌else◌}
use Rattle.std.proofs.lemmas.List.{get_or_read}
use Rattle.ot_model.specs.Cells.{same_cell, AreInOrder, mode_in}
use Rattle.ot_model.specs.declared.expr.Cell.{Cell}
use Rattle.ot_model.specs.declared.stmt.Mode.{Mode}
use Rattle.ot_model.specs.declared.stmt.Use.{Use}
use Rattle.ot_model.proofs.EqualLemmas.{cell-decides}
use Rattle.ot_model.proofs.DeclaredLemmas.{mode_in-at, nowhere}
use Rattle.ot_parts.specs.Modes.{with_mode}
use Rattle.ot_parts.proofs.UseLemmas.{before_place, behind_place, order-set, sees-set, order-insert, sees-insert, added-one}
use Rattle.ot_parts.proofs.held.put.Goals.{else-place-len-via-then-place-len+else-eq, else-place-len-via-else-place-len}
use Rattle.ot_parts.proofs.held.put.Goals as goal

pub returns-then-eq-clause-ordered : goal.returns-then-eq-clause-ordered
returns-then-eq-clause-ordered c =
    let us = c.args.list.now.items in
    let e : Use = c.index_mut.result.now in
    let new : Use = record { cell = e.cell; mode = c.stronger.result } in
    order-set us c.args.place new c.requires.ordered (λ d within. ap (λ (u : Use). u.cell) (sym (get_or_read us c.args.place e within c.index_mut.ensures.value d)))

pub returns-then-eq-clause-added : goal.returns-then-eq-clause-added
returns-then-eq-clause-added c =
    let us = c.args.list.now.items in
    let place : ℕ = c.args.place in
    let cell : Cell = c.args.used.cell in
    let e : Use = c.index_mut.result.now in
    let x : Use = c.index-then-eq.result.now in
    let m : Mode = c.stronger.result in
    let within : place < length us = omega (arith, c.args.list.now.ok.0, c.len.ensures, c.if-place-len.true) in
    let met : c.index.result.now.cell ≡ cell = (cell-decides c.index.result.now.cell cell).0 (sym c.eq.ensures ∙ c.if-eq.true) in
    let here : (d : Use) → (get_or us place d).cell ≡ cell = λ d. ap (λ (u : Use). u.cell) (sym (get_or_read us place c.index.result.now within c.index.ensures d)) ∙ met in
    let its : e.cell ≡ cell = ap (λ (u : Use). u.cell) c.index_mut.ensures.value ∙ here e in
    let at : mode_in us cell ≡ Some x.mode = mode_in-at us place x cell c.requires.ordered within (here x) ∙ ap (λ (u : Use). Some u.mode) (sym c.index-then-eq.ensures) in
    let new : Use = record { cell = e.cell; mode = m } in
    λ k. added-one c.args.used m us (set us place new)
    (c.stronger.ensures ∙ sym (ap (λ o. with_mode o c.args.used.mode) at))
    (λ y. sees-set us place new c.requires.ordered within (λ d. here d ∙ sym its) y ∙ ap (λ (q : Cell). if same_cell y q then Some m else mode_in us y) its) k

pub returns : goal.returns
returns c =
    let us = c.args.list.now.items in
    let place : ℕ = c.args.place in
    let u : Use = c.args.used in
    let within : place ≤ length us = c.requires.place.0 in
    let front = before_place us place u.cell c.requires.place.1.0 in
    let another : (d : Use) → place < length us → (get_or us place d).cell ≢ u.cell = elim c.else-place-len.branch [
      | else-place-len-via-then-place-len+else-eq w ↦ λ d inside same.
          true≢false (sym ((cell-decides w.index.result.now.cell u.cell).1 (ap (λ (v : Use). v.cell) (get_or_read us place w.index.result.now inside w.index.ensures d) ∙ same)) ∙ (sym w.eq.ensures ∙ w.if-eq.false))
      | else-place-len-via-else-place-len w ↦ λ d inside. absurd (omega (arith, inside, c.args.list.now.ok.0, c.len.ensures, w.if-place-len.false))
    ] in
    let back = behind_place us place u.cell c.requires.ordered c.requires.place.1.1 another in
    let none : mode_in us u.cell ≡ None = nowhere us u.cell place place (omega arith) front back in
    record {
      ordered = subst AreInOrder (sym c.in_ok-insert.ensures.items) (order-insert us place u c.requires.ordered within front back);
      added = λ x. ap (λ vs. mode_in vs x) c.in_ok-insert.ensures.items
          ∙ added-one u u.mode us _ (sym (ap (λ o. with_mode o u.mode) none)) (sees-insert us place u within front) x;
    }
