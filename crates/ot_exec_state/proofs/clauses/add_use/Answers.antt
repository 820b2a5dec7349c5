use Rattle.std.proofs.Common.{◌≡◌, ◌∙◌, ap, sym, ℕ, List}
use Rattle.std.specs.Prelude.{slice_get}
use Rattle.ot_model.specs.declared.stmt.Use.{Use}
use Rattle.ot_exec_state.specs.Clauses.{before, with_use, use_placed}
use Rattle.ot_exec_state.proofs.UseLemmas.{by_place, order_kept, still_in_order}
use Rattle.ot_exec_state.proofs.clauses.add_use.Goals as goal

pub returns-clause-told : goal.returns-clause-told
returns-clause-told c =
    let us = c.args.uses.now.items in
    let u = c.args.added in
    let place = c.place_of-place.result in
    let found = c.use_at-found.result in
    let place_is : place ≡ before u.cell us = c.place_of-place.ensures.place ∙ ap (before u.cell) c.deref.ensures.value in
    let found_is : found ≡ slice_get us place = c.use_at-found.ensures ∙ ap (λ (xs : List Use). slice_get xs place) c.deref-2.ensures.value in
    let is : with_use u us ≡ use_placed u us place found =
    by_place u us ∙ ap (λ (n : ℕ). use_placed u us n (slice_get us n)) (sym place_is) ∙ ap (use_placed u us place) (sym found_is) in
    rw is c.put_use.ensures

pub returns-clause-ordered : goal.returns-clause-ordered
returns-clause-ordered c =
    let us = c.args.uses.now.items in
    let u = c.args.added in
    let place = c.place_of-place.result in
    let found = c.use_at-found.result in
    let place_is : place ≡ before u.cell us = c.place_of-place.ensures.place ∙ ap (before u.cell) c.deref.ensures.value in
    let found_is : found ≡ slice_get us place = c.use_at-found.ensures ∙ ap (λ (xs : List Use). slice_get xs place) c.deref-2.ensures.value in
    let is : with_use u us ≡ use_placed u us place found =
    by_place u us ∙ ap (λ (n : ℕ). use_placed u us n (slice_get us n)) (sym place_is) ∙ ap (use_placed u us place) (sym found_is) in
    still_in_order c.put_use.result c.put_use.new.uses.items (with_use u us) (rw is c.put_use.ensures) (order_kept u us c.requires)
