use Rattle.std.proofs.Common.{arith, ◌≡◌, ◌∙◌, [], drop, sym, ap}
use Rattle.std.proofs.lemmas.List.{drop_all}
use Rattle.ot_model.specs.Tree.{append}
use Rattle.ot_model.proofs.TreeLemmas as tree
use Rattle.ot_parts.specs.Assigns.{assigns_of}
use Rattle.ot_parts.proofs.GatherLemmas.{copied}
use Rattle.ot_parts.proofs.gather.push_copies.Goals as goal

pub loop-assign-preserved : goal.loop-assign-preserved
loop-assign-preserved c =
    copied c.loop-assign.run.items c.push.new.self.items c.args.more.now c.loop-assign.assign-index c.in_ok-copy.field-0 c.assign-item.result
    c.loop-assign-test.true c.assign-item.is c.in_ok-push.ensures.items c.in_ok-copy.ensures ∙ c.loop-assign.invariant

pub returns : goal.returns
returns c =
    let none : drop c.loop-assign.assign-index c.args.more.now ≡ [] = drop_all c.loop-assign.assign-index c.args.more.now (omega (arith, c.loop-assign-test.false)) in
    sym (tree.append-End (assigns_of c.loop-assign.run.items)) ∙ ap (λ l. append (assigns_of c.loop-assign.run.items) (assigns_of l)) (sym none) ∙ c.loop-assign.invariant
