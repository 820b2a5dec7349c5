use Rattle.std.proofs.Common.{◌≡◌, ◌≢◌, ◌<◌, ℕ, false, length, ap, ◌∙◌, subst, get_or, arith}
use Rattle.std.proofs.lemmas.List.{get_or_default}
use Rattle.ot_model.specs.Cells.{same_cell}
use Rattle.ot_model.specs.declared.stmt.Mode.TheVariants.{Reads}
use Rattle.ot_model.specs.declared.stmt.Use.{Use}
use Rattle.ot_model.proofs.EqualLemmas.{cell-decides}
use Rattle.ot_model.proofs.OrderLemmas.{each_precedes}
use Rattle.ot_owner.proofs.PlaceLemmas.{place-found, place-missing, another_at}
use Rattle.ot_owner.proofs.rows.Group.place.Goals as goal
use Rattle.ot_owner.proofs.rows.Group.place.Goals.{else-place-uses-via-then-place-uses+else-eq, else-place-uses-via-else-place-uses}

pub returns-then-eq : goal.returns-then-eq
returns-then-eq c =
    let uses = c.uses-uses.result.now in
    let us = c.args.self.now.decl in
    let place : ℕ = c.before-place.result in
    let nothing : Use = record { cell = record { array = 0; index = 0 }; mode = Reads } in
    let x : Use = get_or uses place nothing in
    let inside : place < length uses = omega (arith, c.if-place-uses.true) in
    let within : place < length us = subst (λ xs. place < length xs) c.uses-uses.ensures.uses inside in
    place-found (λ (u : Use). u.cell) us c.args.cell place x c.before-place.ensures.0 within
    (get_or_default uses place nothing x inside ∙ ap (λ xs. get_or xs place x) c.uses-uses.ensures.uses)
    ((cell-decides x.cell c.args.cell).0 (grind (arith, c.eq.ensures, c.if-eq.true)))

pub returns : goal.returns
returns c =
    let uses = c.uses-uses.result.now in
    let us = c.args.self.now.decl in
    let place : ℕ = c.before-place.result in
    let nothing : Use = record { cell = record { array = 0; index = 0 }; mode = Reads } in
    let x : Use = get_or uses place nothing in
    let long : length uses ≡ length us = ap length c.uses-uses.ensures.uses in
    let another : (e : Use) → place < length us → (get_or us place e).cell ≢ c.args.cell = elim c.else-place-uses.branch [
      | else-place-uses-via-then-place-uses+else-eq w ↦ λ e within.
          let other : same_cell x.cell c.args.cell ≡ false = grind (arith, w.eq.ensures, w.if-eq.false) in
          another_at (λ (u : Use). u.cell) us c.args.cell place x
          (get_or_default uses place nothing x (omega (arith, within, long)) ∙ ap (λ xs. get_or xs place x) c.uses-uses.ensures.uses) other e within
      | else-place-uses-via-else-place-uses w ↦ λ e within. absurd (omega (arith, within, long, w.if-place-uses.false))
    ] in
    place-missing (λ (u : Use). u.cell) us c.args.cell place nothing (each_precedes us c.uses-uses.ensures.ordered) c.before-place.ensures.0 c.before-place.ensures.1 another
