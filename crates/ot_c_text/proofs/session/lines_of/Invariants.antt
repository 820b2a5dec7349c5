use Rattle.std.proofs.Common.{map, take}
use Rattle.serde_json.specs.View.{view}
use Rattle.ot_c_text.specs.Session.{AreLines}
use Rattle.ot_c_text.proofs.session.lines_of.Given as goal

-- the lines so far
abbrev pub invariant-loop-request : goal.invariant-loop-request
invariant-loop-request l = AreLines (map (λ r. view r) (take l.request-index l.requests)) l.lines.items
