use Rattle.std.proofs.Common.{◌≡◌, ◌<◌, ◌∙◌, length, take, ap, arith}
use Rattle.std.proofs.lemmas.Grind.{common_steps}
use Rattle.std.proofs.lemmas.List.{length-map, take_all}
use Rattle.ot_owner.specs.Lending.{copy_of, uses_of}
use Rattle.ot_owner.proofs.RightsLemmas.{uses_of-lent_from}
use Rattle.ot_owner.proofs.slip.Slip.fill.Goals as goal

pub push_reserved-requires : goal.push_reserved-requires
push_reserved-requires c =
    let uses = c.uses-used-items.result.now in
    let i = c.loop-used.used-index in
    let within : i < length uses = c.loop-used-test.true in
    let taken : length (take i uses) ≡ i = grind (arith, common_steps) in
    let long : length c.loop-used.lent.items ≡ i = ap length c.loop-used.invariant.0 ∙ length-map (take i uses) (copy_of c.args.cells.now) ∙ taken in
    omega (arith, within, long, c.loop-used.invariant.1, c.loop-used.lent.ok.0)

pub fill-right-requires : goal.fill-right-requires
fill-right-requires c =
    let uses = c.uses-used-items.result.now in
    let all : take c.loop-used.used-index uses ≡ uses = take_all c.loop-used.used-index uses (omega (arith, c.loop-used-test.false)) in
    ap uses_of (c.deref.ensures.value ∙ c.loop-used.invariant.0) ∙ uses_of-lent_from c.args.cells.now (take c.loop-used.used-index uses) ∙ all ∙ c.uses-used-items.ensures.uses
