use Rattle.std.proofs.Common.{◌≡◌, ◌-◌, ◌++◌, length, map}
use Rattle.serde_json.specs.View.{view}
use Rattle.ot_c_text.specs.Requests.{puts_from}
use Rattle.ot_c_text.proofs.requests.with_pieces.Given as goal

-- those that are left follow
abbrev pub invariant-loop-turn : goal.invariant-loop-turn
invariant-loop-turn l = map view l.requests.items ++ puts_from l.name (length l.cells) (l.count - l._turn) l.rest ≡ map view l.fn.requests.items ++ puts_from l.name (length l.cells) l.count l.cells
