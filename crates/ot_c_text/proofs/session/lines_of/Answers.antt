use Rattle.std.proofs.Common.{map, subst}
use Rattle.std.proofs.lemmas.List.{take_all}
use Rattle.serde_json.specs.View.{view}
use Rattle.ot_c_text.specs.Session.{AreLines}
use Rattle.ot_c_text.proofs.LineLemmas.{lines_next}
use Rattle.ot_c_text.proofs.session.lines_of.Goals as goal

pub loop-request-preserved : goal.loop-request-preserved
loop-request-preserved c =
    let made = c.in_ok-lines.ensures in
    lines_next (λ r. view r) c.args.requests.now c.loop-request.request-index c.request-item.result _ made.0 _ c.loop-request.invariant made.1 made.2
    c.loop-request-test.true c.request-item.is

pub returns : goal.returns
returns c =
    let l = c.loop-request in
    subst (λ rs. AreLines (map (λ r. view r) rs) l.lines.items) (take_all l.request-index c.args.requests.now c.loop-request-test.false) l.invariant
