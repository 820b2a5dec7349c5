use Rattle.std.proofs.Common.{◌≡◌, ◌↔◌, sym, subst, arith, take, get_or, Contains, IsPermutation}
use Rattle.std.proofs.lemmas.List.Sorted.{Contains-permutation, IsPermutation-sym}
use Rattle.std.proofs.lemmas.List.{get_or_default, take_all}
use Rattle.ot_model.specs.declared.expr.Cell.{Cell}
use Rattle.ot_owner.specs.Owning.{IsNamed}
use Rattle.ot_owner.proofs.NameLemmas.{named-more}
use Rattle.ot_owner.proofs.room.named.Goals as goal

pub loop-cell-preserved : goal.loop-cell-preserved
loop-cell-preserved c =
    let cells = c.deref-cell-items.result.now in
    let i = c.loop-cell.cell-index in
    let nothing : Cell = record { array = 0; index = 0 } in
    let x : Cell = get_or cells i nothing in
    record {
      ordered = c.name.ensures.ordered;
      written = c.name.ensures.written;
      named = λ k. named-more c.loop-cell.uses.items c.name.new.uses.items cells i x k c.loop-cell-test.true (get_or_default cells i nothing x c.loop-cell-test.true)
          (c.loop-cell.invariant.named k) (c.in_ok-name.ensures.named k);
    }

pub returns-clause-named : goal.returns-clause-named
returns-clause-named c = λ k.
    let sorted = c.deref-cell-items.result.now in
    let all : take c.loop-cell.cell-index sorted ≡ sorted = take_all c.loop-cell.cell-index sorted (omega (arith, c.loop-cell-test.false)) in
    let given : IsPermutation c.args.cells.now sorted =
    subst (λ xs. IsPermutation xs sorted) c.in_ok-sorted.ensures.items
    (subst (IsPermutation c.in_ok-sorted.sorted.items) (sym c.deref-cell-items.ensures.value) c.sort_unstable_by_key.ensures.permutation) in
    let here = subst (λ xs. IsNamed c.loop-cell.uses.items k ↔ Contains xs k) all (c.loop-cell.invariant.named k) in (
      λ there. Contains-permutation sorted c.args.cells.now k (IsPermutation-sym c.args.cells.now sorted given) (here.0 there),
      λ there. here.1 (Contains-permutation c.args.cells.now sorted k given there),
    )
