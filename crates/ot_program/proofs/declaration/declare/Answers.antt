use Rattle.std.proofs.Common.{rules, ◌≡◌, [], sym, ap, subst, ◌∙◌, arith, take}
use Rattle.std.specs.Prelude.{All}
use Rattle.std.specs.List.{fold}
use Rattle.std.proofs.lemmas.List.{take_all}
use Rattle.std.proofs.lemmas.List.Sorted.{All-permutation}
use Rattle.ot_program.specs.declared.clause.Clause.{Clause}
use Rattle.ot_program.specs.walk.Parts.{uses_of, declaration}
use Rattle.ot_program.specs.walk.Namings.{fits, name_clause}
use Rattle.ot_program.proofs.AnyOrder.{any_order, clauses_strict}
use Rattle.ot_program.proofs.declaration.declare.Goals as goal

pub name_clause-requires-clause-fits : goal.name_clause-requires-clause-fits
name_clause-requires-clause-fits c =
    let sorted = c.deref-clause-items.result.now in
    let all : All (λ (k : Clause). fits k.section) sorted =
    subst (All (λ (k : Clause). fits k.section)) (sym c.deref-clause-items.ensures.value)
    (All-permutation (λ (k : Clause). fits k.section) c.args.clauses.items c.sort_unstable_by_key.new.self.items c.sort_unstable_by_key.ensures.permutation c.requires) in
    all c.loop-clause.clause-index _ c.loop-clause-test.true

pub name_clause-requires-clause-ordered : goal.name_clause-requires-clause-ordered
name_clause-requires-clause-ordered c = clauses_strict (take c.loop-clause.clause-index c.deref-clause-items.result.now) c.loop-clause.named.items c.loop-clause.invariant

pub uses_of-requires : goal.uses_of-requires
uses_of-requires c = clauses_strict (take c.loop-clause.clause-index c.deref-clause-items.result.now) c.loop-clause.named.items c.loop-clause.invariant

pub returns-in_err-uses : goal.returns-in_err-uses
returns-in_err-uses c =
    let sorted = c.deref-clause-items.result.now in
    let all = take_all c.loop-clause.clause-index sorted (omega (arith, c.loop-clause-test.false)) in
    let whole : c.loop-clause.named.items ≡ fold name_clause [] c.args.clauses.items =
    c.loop-clause.invariant ∙ ap (fold name_clause []) (all ∙ c.deref-clause-items.ensures.value) ∙ any_order c.args.clauses.items c.sort_unstable_by_key.new.self.items c.sort_unstable_by_key.ensures.permutation in
    let declared : declaration c.args.clauses.items ≡ uses_of c.loop-clause.named.items = ap uses_of (sym whole) in
    rw declared (search rules)

pub returns : goal.returns
returns c =
    let sorted = c.deref-clause-items.result.now in
    let all = take_all c.loop-clause.clause-index sorted (omega (arith, c.loop-clause-test.false)) in
    let whole : c.loop-clause.named.items ≡ fold name_clause [] c.args.clauses.items =
    c.loop-clause.invariant ∙ ap (fold name_clause []) (all ∙ c.deref-clause-items.ensures.value) ∙ any_order c.args.clauses.items c.sort_unstable_by_key.new.self.items c.sort_unstable_by_key.ensures.permutation in
    let declared : declaration c.args.clauses.items ≡ uses_of c.loop-clause.named.items = ap uses_of (sym whole) in
    rw declared (search rules)
