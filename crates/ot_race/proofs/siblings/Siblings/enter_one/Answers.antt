use Rattle.std.proofs.Common.{◌∙◌}
use Rattle.std.proofs.lemmas.Result.{on_ok_weaker}
use Rattle.ot_race.proofs.RowLemmas.{put_entered}
use Rattle.ot_race.proofs.siblings.Siblings.enter_one.Goals as goal

pub returns : goal.returns
returns c =
    let e = c.in_ok-enter.ensures in
    on_ok_weaker c.put.result
    (λ p.
    put_entered c.args.at.ends.now c.args.at.number c.args.parent c.args.child c.args.used c.args.self.now c.put.new.self c.in_ok-row.row c.enter.new.self
    (record { others = λ q u away. p.others q u away ∙ c.in_ok-row.ensures.others q u away; was = c.in_ok-row.ensures.was; is = p.here })
    (record { only = e.only; kept = e.kept; entered = e.entered }))
    c.put.ensures
