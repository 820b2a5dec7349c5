use Rattle.std.proofs.Common.{◌<◌, length, arith}
use Rattle.std.proofs.lemmas.List.{length-map}
use Rattle.ot_depend.specs.Kept.{Kid}
use Rattle.ot_depend.specs.Children.{kid_of, kids_of}
use Rattle.ot_depend.proofs.HeartLemmas.{ready_by_count}
use Rattle.ot_depend.proofs.ChildrenLemmas.{kid_at}
use Rattle.ot_depend.proofs.WaitLemmas.{waiting_counted}
use Rattle.ot_depend.proofs.kept.Kept.waiting.Goals as goal

pub returns-clause-exact : goal.returns-clause-exact
returns-clause-exact c =
    let children = c.args.self.now.children in
    let within : c.args.child < length children.items = omega (arith, c.requires.known, length-map (kids_of children.items) (λ (k : Kid). k.it), length-map children.items kid_of) in
    waiting_counted (kids_of children.items) c.requires.kept.linked c.args.child (kid_of c.index.result.now) (kid_at children.items c.args.child c.index.result.now within c.index.ensures)

pub returns-clause-none : goal.returns-clause-none
returns-clause-none c =
    let children = c.args.self.now.children in
    let within : c.args.child < length children.items = omega (arith, c.requires.known, length-map (kids_of children.items) (λ (k : Kid). k.it), length-map children.items kid_of) in
    ready_by_count (kids_of children.items) c.args.child (kid_of c.index.result.now) c.requires.kept.linked c.requires.kept.ready (kid_at children.items c.args.child c.index.result.now within c.index.ensures)
