use Rattle.std.proofs.Common.{◌≡◌, ◌≤◌, ◌-◌}
use Rattle.std.specs.Prelude.{Some}
use Rattle.std.specs.List.{count_by}
use Rattle.ot_c_clauses.specs.Owns.{is_of}
use Rattle.ot_c_clauses.proofs.own.Owns.count_between.Given as goal

-- those at the places so far are counted
abbrev pub invariant-loop-place : goal.invariant-loop-place
invariant-loop-place l = (l.first ≤ l.place) × (l.place ≤ l.end) × (l.count ≡ count_by (is_of l.array (Some (l.first, l.place - l.first))) l.self)
