use Rattle.std.proofs.Common.{◌<◌, length, arith}
use Rattle.std.proofs.lemmas.Bool.{eqb-true, eq-eqb, ltb-true}
use Rattle.std.proofs.lemmas.Option.{slice_get_within}
use Rattle.std.proofs.lemmas.List.{length-map}
use Rattle.ot_depend.specs.Kept.{Kid}
use Rattle.ot_depend.specs.Children.{kid_of, kids_of}
use Rattle.ot_depend.specs.View.{siblings_in}
use Rattle.ot_depend.proofs.HeartLemmas.{ready_by_count}
use Rattle.ot_depend.proofs.ChildrenLemmas.{kid_at}
use Rattle.ot_depend.proofs.kept.Kept.is_ready.Goals as goal

pub returns-then-child-len : goal.returns-then-child-len
returns-then-child-len c =
    let children = c.args.self.now.children in
    let within : c.args.child < length children.items = omega (arith, c.len.ensures, children.ok.0, c.if-child-len.true) in
    let told = ready_by_count (kids_of children.items) c.args.child (kid_of c.index.result.now) c.requires.linked c.requires.ready (kid_at children.items c.args.child c.index.result.now within c.index.ensures) in
    (λ none. told.0 (eqb-true c.index.result.now.waiting 0 none), λ ready. eq-eqb c.index.result.now.waiting 0 (told.1 ready))

pub returns-else-child-len : goal.returns-else-child-len
returns-else-child-len c =
    let children = c.args.self.now.children in (
      λ below. absurd (omega (arith, ltb-true c.args.child c.len.result below, c.if-child-len.false)),
      λ ready. absurd (omega (arith, slice_get_within (siblings_in c.args.self.now) c.args.child ready.itself ready.known, length-map (kids_of children.items) (λ (k : Kid). k.it), length-map children.items kid_of, c.len.ensures, children.ok.0, c.if-child-len.false)),
    )
