use Rattle.std.proofs.Common.{slice_index_or, arith}
use Rattle.ot_c_overlap.proofs.ClaimLemmas.{nowhere, overlaps, are_whole, are_next, are_none, stands_at, stands_within}
use Rattle.ot_c_overlap.proofs.first.first_of.Goals as goal

pub loop-item-init : goal.loop-item-init
loop-item-init c = are_none c.args.items.now c.new-claims.result c.new-claims.ensures

pub clashes-requires : goal.clashes-requires
clashes-requires c = are_whole c.args.items.now c.loop-item.item-index c.loop-item.claims c.loop-item.invariant

pub take-requires : goal.take-requires
take-requires c = are_whole c.args.items.now c.loop-item.item-index c.loop-item.claims c.loop-item.invariant

pub returns-then-clashes : goal.returns-then-clashes
returns-then-clashes c =
    let items = c.args.items.now in
    let n = c.loop-item.item-index in
    let it = slice_index_or items n nowhere in
    overlaps items n it c.loop-item.claims (stands_at items n nowhere (omega (arith, c.loop-item-test.true))) c.loop-item.invariant (c.clashes.ensures.some c.if-clashes.true)

pub loop-item-preserved : goal.loop-item-preserved
loop-item-preserved c =
    let items = c.args.items.now in
    let n = c.loop-item.item-index in
    let it = slice_index_or items n nowhere in
    are_next items n it c.loop-item.claims (stands_at items n nowhere (omega (arith, c.loop-item-test.true))) c.loop-item.invariant c.take.new.self
    (c.clashes.ensures.none c.if-clashes.false) c.in_ok-take.ensures

pub returns : goal.returns
returns c = λ i j o.
    c.loop-item.invariant.none i j o (omega (arith, stands_within c.args.items.now j o.other o.later, c.loop-item-test.false))
