use Rattle.std.proofs.Common.{◌≡◌, ◌<◌, ◌∙◌, length, take, ap, arith}
use Rattle.std.proofs.lemmas.Grind.{common_steps}
use Rattle.std.proofs.lemmas.List.{length-map}
use Rattle.ot_owner.specs.declared.lent.LentCell.{LentCell}
use Rattle.ot_owner.proofs.right.RightRoom.fill.Goals as goal

pub push_reserved-requires : goal.push_reserved-requires
push_reserved-requires c =
    let lent = c.args.lent.now in
    let i = c.loop-copy.copy-index in
    let within : i < length lent = c.loop-copy-test.true in
    let taken : length (take i lent) ≡ i = grind (arith, common_steps) in
    let long : length c.loop-copy.firsts.items ≡ i = ap length c.loop-copy.invariant.0 ∙ length-map (take i lent) (λ (l : LentCell). l.first) ∙ taken in
    omega (arith, within, long, c.loop-copy.invariant.1, c.loop-copy.firsts.ok.0)
