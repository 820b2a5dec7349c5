use Rattle.std.proofs.Common.{◌≡◌, ◌++◌, drop, map}
use Rattle.serde_json.specs.View.{view}
use Rattle.ot_c_text.specs.Requests as meant
use Rattle.ot_c_text.proofs.requests.numbers.Given as goal

-- those that are left follow
abbrev pub invariant-loop-cell : goal.invariant-loop-cell
invariant-loop-cell l = map view l.values.items ++ meant.numbers_data (drop l.cell-index l.cells) ≡ meant.numbers_data l.cells
