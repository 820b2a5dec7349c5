use Rattle.std.proofs.Common.{◌≡◌, ◌++◌, drop, map}
use Rattle.serde_json.specs.View.{items_view}
use Rattle.ot_program.specs.Meanings.{each}
use Rattle.ot_why_place.specs.Spots.{trail_bindings}
use Rattle.ot_c_overlap.specs.Items.{item_of, sections_among}
use Rattle.ot_c_overlap.specs.View.{ground_by}
use Rattle.ot_c_overlap.proofs.walk.Walk.note_each.Given as goal

-- what is noted, with the items of the rest, is what all give
abbrev pub invariant-loop-clause : goal.invariant-loop-clause
invariant-loop-clause l =
    l.noted.items ++ map (item_of l.parent l.entry) (sections_among (ground_by l.self) (trail_bindings l.trail) (each (items_view (drop l.clause-index l.clauses))))
    ≡ l.initial.noted.items ++ map (item_of l.parent l.entry) (sections_among (ground_by l.self) (trail_bindings l.trail) (each (items_view l.clauses)))
