use Rattle.std.proofs.Common.{◌≡◌, ◌++◌, ◌∙◌, [], append-nil, sym, ap, arith}
use Rattle.std.specs.Prelude.{vec_len}
use Rattle.std.proofs.lemmas.Bool.Decides.{nat_tests}
use Rattle.std.proofs.lemmas.List.{nil_from_length}
use Rattle.ot_parts.specs.Modes.{strongest}
use Rattle.ot_parts.proofs.StrongestLemmas.{strongest-in_order}
use Rattle.ot_parts.proofs.held.Held.into_uses.Goals as goal

pub returns-then-is_empty-clause-exact : goal.returns-then-is_empty-clause-exact
returns-then-is_empty-clause-exact c = λ cell.
    let list = c.self.inside.list.items in
    let len : vec_len c.self.inside.aside ≡ 0 = grind (arith, nat_tests) in
    let none : c.self.inside.aside.items ≡ [] = nil_from_length c.self.inside.aside.items (omega (arith, len, c.self.inside.aside.ok.0)) in
    sym (strongest-in_order list cell c.self.invariant) ∙ sym (ap (λ us. strongest us cell) (ap (λ us. list ++ us) none ∙ append-nil list))
    ∙ ap (λ us. strongest us cell) c.self.view_is
