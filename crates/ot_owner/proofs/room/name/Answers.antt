use Rattle.std.proofs.Common.{◌≡◌, ◌≢◌, ◌<◌, ◌≤◌, ◌↔◌, ◌⊎◌, ℕ, length, get_or, true≢false, sym, ap, subst, ◌∙◌, arith, refl}
use Rattle.std.specs.List.{All}
use Rattle.std.proofs.lemmas.List.{get_or_read}
use Rattle.ot_model.specs.Cells.{AreInOrder}
use Rattle.ot_model.specs.declared.expr.Cell.{Cell}
use Rattle.ot_model.specs.declared.stmt.Mode.TheVariants.{Writes}
use Rattle.ot_model.specs.declared.stmt.Use.{Use}
use Rattle.ot_model.proofs.EqualLemmas.{cell-decides}
use Rattle.ot_owner.specs.Owning.{IsNamed}
use Rattle.ot_owner.proofs.NameLemmas.{behind_place, before_place, order-insert, all-insert, named-insert}
use Rattle.ot_owner.proofs.room.name.Goals.{else-place-len-via-then-place-len+else-eq, else-place-len-via-else-place-len}
use Rattle.ot_owner.proofs.room.name.Goals as goal

pub returns-clause-ordered : goal.returns-clause-ordered
returns-clause-ordered c =
    let us = c.args.uses.now.items in
    let place : ℕ = c.place_of-place.result in
    let cell : Cell = c.args.cell in
    let used : Use = record { cell = cell; mode = Writes } in
    let slice = c.deref.ensures.value in
    let within : place ≤ length us = subst (λ xs. place ≤ length xs) slice c.place_of-place.ensures.bound in
    let parts = rw slice at c.place_of-place.ensures.parts in
    let another : (d : Use) → place < length us → (get_or us place d).cell ≢ cell = elim c.else-place-len.branch [
      | else-place-len-via-then-place-len+else-eq w ↦ λ d inside same.
          true≢false (sym ((cell-decides w.index.result.now.cell cell).1 (ap (λ (v : Use). v.cell) (get_or_read us place w.index.result.now inside w.index.ensures d) ∙ same)) ∙ (sym w.eq.ensures ∙ w.if-eq.false))
      | else-place-len-via-else-place-len w ↦ λ d inside. absurd (omega (arith, inside, c.args.uses.now.ok.0, c.len.ensures, w.if-place-len.false))
    ] in
    subst AreInOrder (sym c.in_ok-insert.ensures.items)
    (order-insert us place used c.requires.ordered within (before_place us place cell parts.0) (behind_place us place cell c.requires.ordered parts.1 another))

pub returns-clause-written : goal.returns-clause-written
returns-clause-written c =
    let us = c.args.uses.now.items in
    let place : ℕ = c.place_of-place.result in
    let used : Use = record { cell = c.args.cell; mode = Writes } in
    let within : place ≤ length us = subst (λ xs. place ≤ length xs) c.deref.ensures.value c.place_of-place.ensures.bound in
    subst (All (λ u. u.mode ≡ Writes)) (sym c.in_ok-insert.ensures.items) (all-insert (λ u. u.mode ≡ Writes) us place used within refl c.requires.written)

pub returns-clause-named : goal.returns-clause-named
returns-clause-named c = λ k.
    let us = c.args.uses.now.items in
    let place : ℕ = c.place_of-place.result in
    let used : Use = record { cell = c.args.cell; mode = Writes } in
    let within : place ≤ length us = subst (λ xs. place ≤ length xs) c.deref.ensures.value c.place_of-place.ensures.bound in
    subst (λ vs. IsNamed vs k ↔ ((k ≡ c.args.cell) ⊎ IsNamed us k)) (sym c.in_ok-insert.ensures.items) (named-insert us place used k within)
