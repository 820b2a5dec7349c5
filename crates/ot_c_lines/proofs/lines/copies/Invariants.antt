use Rattle.std.proofs.Common.{◌≡◌, ◌++◌, drop, map}
use Rattle.serde_json.specs.View.{view}
use Rattle.ot_c_lines.proofs.lines.copies.Given as goal

-- those that are left follow
abbrev pub invariant-loop-value : goal.invariant-loop-value
invariant-loop-value l = map view l.copies.items ++ map view (drop l.value-index l.values) ≡ map view l.values
