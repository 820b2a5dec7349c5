use Rattle.std.proofs.Common.{◌≡◌, List, ℕ, Bool, true, false, refl, ap, ◌∙◌, set}
use Rattle.std.specs.Prelude.{Some, None, option_map, if◌then◌else◌}
use Rattle.ot_model.specs.Cells.{updated}
use Rattle.ot_model.specs.Joining.{join_by}
use Rattle.ot_model.proofs.CellsLemmas.{set-updated}
use Rattle.ot_owner.proofs.rows.Row.fold.Goals as goal

pub returns-clause-folded : goal.returns-clause-folded
returns-clause-folded c =
    let copies = c.args.self.now.copies.items in
    let is = set-updated copies c.args.place c.join.result c.index-copy.result.now (λ copy. join_by c.args.op copy c.args.number)
    (c.join.ensures ∙ ap (λ copy. join_by c.args.op copy c.args.number) c.index-copy.ensures) in
    by c.args.self.now.begun copies (set copies c.args.place c.join.result) is
  where
    by : (b : Bool) (xs ys : List ℕ) → ys ≡ updated xs c.args.place (λ copy. join_by c.args.op copy c.args.number) →
        (if b then Some ys else None) ≡ option_map (λ copies. updated copies c.args.place (λ copy. join_by c.args.op copy c.args.number)) (if b then Some xs else None)
    by true xs ys is = ap Some is
    by false xs ys is = refl
