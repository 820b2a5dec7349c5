use Rattle.std.proofs.Common.{◌≡◌, ℕ, ◌+◌, ◌-◌, ◌*◌, ◌∷◌, drop}
use Rattle.serde_json.specs.Data.{depth, items_depth}
use Rattle.serde_json.specs.View.{view, items_view}
use Rattle.ot_program.specs.Copies.{copies, copies_of, turns}
use Rattle.ot_why_place.specs.Spots.{in_body, in_turns, path_of, trail_bindings}
use Rattle.ot_why_place.specs.Seeking.{seek, counts_by}
use Rattle.ot_why_place.specs.Texts.{body_depth}
use Rattle.ot_why_place.proofs.walk.Walk.+walk.Given as goal

-- what is sought in all items is sought in the rest
abbrev pub invariant-items-loop-index : goal.invariant-items-loop-index
invariant-items-loop-index l =
    (level : ℕ)
    → seek (counts_by l.self.which) l.initial.left (in_body (path_of l.trail) 0 (copies_of l.self.profile level (items_view l.items) (trail_bindings l.trail)))
    ≡ seek (counts_by l.self.which) l.left (in_body (path_of l.trail) l.index (copies_of l.self.profile level (items_view (drop l.index l.items)) (trail_bindings l.trail)))

-- what is sought in all turns is sought in the rest
abbrev pub invariant-turns-loop-number : goal.invariant-turns-loop-number
invariant-turns-loop-number l =
    (level : ℕ)
    → seek (counts_by l.self.which) l.initial.left (in_turns (path_of l.trail) (turns level (trail_bindings l.trail)
    (λ n. copies l.self.profile (level + 1) (view l.body) ((l.turns.variable.now, n) ∷ trail_bindings l.trail)) l.turns.first (l.turns.behind - l.turns.first)))
    ≡ seek (counts_by l.self.which) l.left (in_turns (path_of l.trail) (turns level (trail_bindings l.trail)
    (λ n. copies l.self.profile (level + 1) (view l.body) ((l.turns.variable.now, n) ∷ trail_bindings l.trail)) l.number (l.turns.behind - l.number)))

-- each call goes to what nests less deep, or further on in the walk
abbrev pub decreases-body : goal.decreases-body
decreases-body l = 6 * depth (view l.body.now)

abbrev pub decreases-items : goal.decreases-items
decreases-items l = 6 * items_depth (items_view l.items.now) + 5

abbrev pub decreases-statement : goal.decreases-statement
decreases-statement l = 6 * depth (view l.statement.now) + 4

abbrev pub decreases-bodies : goal.decreases-bodies
decreases-bodies l = 6 * body_depth l.text + 3

abbrev pub decreases-turns : goal.decreases-turns
decreases-turns l = 6 * depth (view l.body.now) + 2

abbrev pub decreases-turn : goal.decreases-turn
decreases-turn l = 6 * depth (view l.body.now) + 1
