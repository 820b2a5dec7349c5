use Rattle.std.proofs.Common.{◌≡◌, ℕ, List, IfOk, unwrap_or, ap, ◌∙◌, subst}
use Rattle.serde_json.specs.View.{view}
use Rattle.ot_model.specs.Programs.{Arrays}
use Rattle.ot_store.specs.Arrays.{shape_in}
use Rattle.ot_file_judge.specs.Judging.{fault_offset}
use Rattle.ot_file_judge.proofs.place.fault_in.Goals as goal

abbrev over : List (List ℕ × ℕ) → ℕ → Arrays
over arrays tasks = record { arrays = arrays; tasks = tasks }

-- the arrays and the limit of the book
pub returns-clause-offset : goal.returns-clause-offset
returns-clause-offset c =
    let limits = c.args.book.now.limits in
    let whole = c.in_ok-shape.ensures.shape ∙ ap (λ l. shape_in l c.store.result.now) c.limits-limits.ensures ∙ ap (shape_in limits) c.store.ensures in
    let arrays = c.arrays.ensures.arrays ∙ ap (λ s. s.arrays) whole in
    let same = ap (λ xs. over xs c.limits-limits.result.tasks) arrays ∙ ap (λ l. over (shape_in limits c.args.book.now.store).arrays l.tasks) c.limits-limits.ensures in
    subst (λ s. IfOk c.fault_over.result (λ place. place ≡ unwrap_or (fault_offset s c.args.piece.now (view c.args.request.now)) 0)) same c.fault_over.ensures.offset
