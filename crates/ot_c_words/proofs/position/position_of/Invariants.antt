use Rattle.std.proofs.Common.{◌≡◌, ◌+◌, ◌≤◌, drop}
use Rattle.ot_c_words.specs.Positions.{place_behind}
use Rattle.ot_c_words.proofs.position.position_of.Given as goal

-- the bytes that are left lead to the place, which grows by one at most with each
abbrev pub invariant-loop-byte : goal.invariant-loop-byte
invariant-loop-byte l = (place_behind l.place (drop l.byte-index l.byte-items) ≡ place_behind l.initial.place l.byte-items) × (l.place.line ≤ l.byte-index + 1) × (l.place.column ≤ l.byte-index + 1)
