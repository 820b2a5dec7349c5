use Rattle.std.proofs.Common.{◌≡◌, ◌+◌, ◌<◌, ◌≤◌, ◌++◌, ◌∙◌, suc, length, map, sym, ap, subst, arith}
use Rattle.std.proofs.Math.ListN.{length-map}
use Rattle.ot_depend.specs.Siblings.{IsReady, IsUnfinished}
use Rattle.ot_show_graph.specs.Written.{link_from}
use Rattle.ot_show_graph.specs.Children.{decls_of}
use Rattle.ot_show_graph.specs.declared.child.Child.{Child}
use Rattle.ot_show_graph.proofs.LinkLemmas.{ready, unfinished, one_on, all_links}
use Rattle.ot_show_graph.proofs.link.links_of.Goals as goal

pub release-waiters-requires-clause-ready : goal.release-waiters-requires-clause-ready
release-waiters-requires-clause-ready c =
    let ds = decls_of c.args.children.now in
    let within : c.loop-earlier.earlier < length ds = omega (arith, c.loop-earlier-test.true, length-map c.args.children.now (λ (x : Child). x.decl.now)) in
    subst (λ s. IsReady s c.loop-earlier.earlier) (sym c.loop-earlier.invariant.finished) (ready ds c.loop-earlier.earlier within)

pub release-waiters-requires-clause-unfinished : goal.release-waiters-requires-clause-unfinished
release-waiters-requires-clause-unfinished c =
    let ds = decls_of c.args.children.now in
    let within : c.loop-earlier.earlier < length ds = omega (arith, c.loop-earlier-test.true, length-map c.args.children.now (λ (x : Child). x.decl.now)) in
    subst (λ s. IsUnfinished s c.loop-earlier.earlier) (sym c.loop-earlier.invariant.finished) (unfinished ds c.loop-earlier.earlier within)

pub loop-earlier-preserved : goal.loop-earlier-preserved
loop-earlier-preserved c =
    let ds = decls_of c.args.children.now in
    let i = c.loop-earlier.earlier in
    let within : i < length ds = omega (arith, c.loop-earlier-test.true, length-map c.args.children.now (λ (x : Child). x.decl.now)) in
    let next : i + 1 ≡ suc i = omega arith in
    one_on ds i (i + 1) c.loop-earlier.links.items c.put_links.new.links.items c.loop-earlier.siblings c.release-waiters.new.self c.release-waiters.result.items
    c.loop-earlier.invariant next within c.release-waiters.ensures.finished c.release-waiters.ensures.exact
    (c.in_ok-put_links.ensures ∙ ap (λ ws. c.loop-earlier.links.items ++ map (link_from i) ws) c.deref.ensures.value)

pub returns : goal.returns
returns c =
    let ds = decls_of c.args.children.now in
    let whole : length ds ≤ c.loop-earlier.earlier = omega (arith, c.loop-earlier-test.false, length-map c.args.children.now (λ (x : Child). x.decl.now)) in
    all_links ds c.loop-earlier.earlier c.loop-earlier.links.items c.loop-earlier.siblings c.loop-earlier.invariant whole
