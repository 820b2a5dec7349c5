use Rattle.std.proofs.Common.{◌≡◌, ◌+◌, ℕ, sym, ap, subst, ◌∙◌, arith}
use Rattle.std.specs.Map.{keys_of}
use Rattle.ot_program.specs.walk.Namings.{Named, before}
use Rattle.ot_program.proofs.CellLists.{cells_left-step}
use Rattle.ot_program.proofs.KeyOrder.{Sorted, sorted_from, sorted_named, named_next, strictly_sorted}
use Rattle.ot_program.proofs.declaration.name_clause.Goals as goal

pub loop-step-preserved : goal.loop-step-preserved
loop-step-preserved c =
    let s = c.args.clause.section in
    let es = c.loop-step.named.items in
    let sorted = sorted_from (keys_of es) c.loop-step.invariant.ordered in
    let named = c.in_ok-name_cell.ensures in
    let next : (s.start + c.loop-step.step) + 1 ≡ s.start + (c.loop-step.step + 1) = omega arith in
    record {
      ordered = strictly_sorted _ (subst (λ (xs : Named). Sorted (keys_of xs)) (sym named) (sorted_named c.args.clause.mode es _ sorted));
      place =
          ap (λ n. n + 1) c.loop-step.invariant.place
          ∙ named_next c.args.clause.mode s.array (s.start + c.loop-step.step) es c.name_cell.new.named.items sorted named
          ∙ ap (λ (i : ℕ). before (s.array, i) c.name_cell.new.named.items) next;
      rest = rw named (rw (cells_left-step s c.loop-step.step c.loop-step-test.true) at c.loop-step.invariant.rest);
    }
