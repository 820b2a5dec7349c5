use Rattle.std.proofs.Common.{◌≡◌, ◌++◌, ◌∙◌, [], List, drop, sym, ap, arith}
use Rattle.std.specs.List.{fold}
use Rattle.std.proofs.lemmas.List.{drop_all}
use Rattle.std.proofs.lemmas.List.Sorted.{IsPermutation-append_comm}
use Rattle.ot_model.specs.Cells.{mode_in}
use Rattle.ot_model.specs.declared.stmt.Use.{Use}
use Rattle.ot_parts.specs.Modes.{mode_added, strongest}
use Rattle.ot_parts.proofs.StrongestLemmas.{strongest-permuted}
use Rattle.ot_parts.proofs.held.gather.Goals as goal

pub returns-clause-exact : goal.returns-clause-exact
returns-clause-exact c = λ cell.
    let list = c.args.list.now.items in
    let aside = c.args.aside.now.items in
    let sorted = c.deref-used-items.result.now in
    let none : drop c.loop-used.used-index sorted ≡ [] = drop_all c.loop-used.used-index sorted (omega (arith, c.loop-used-test.false)) in
    sym (ap (λ (us : List Use). fold (mode_added cell) (mode_in c.loop-used.list.items cell) us) none) ∙ c.loop-used.invariant.1 cell
    ∙ ap (λ us. strongest us cell) c.deref-used-items.ensures.value
    ∙ sym (strongest-permuted c.extend_from_slice.new.self.items c.sort_unstable_by_key.new.self.items cell c.sort_unstable_by_key.ensures.permutation)
    ∙ ap (λ us. strongest us cell) (c.in_ok-extend_from_slice.ensures.items ∙ ap (λ us. aside ++ us) c.deref.ensures.value)
    ∙ strongest-permuted (aside ++ list) (list ++ aside) cell (IsPermutation-append_comm aside list)
