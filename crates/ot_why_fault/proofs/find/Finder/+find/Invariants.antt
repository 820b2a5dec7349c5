use Rattle.std.proofs.Common.{◌≡◌, ℕ, ◌+◌, ◌-◌, ◌*◌, ◌∷◌, drop}
use Rattle.serde_json.specs.Data.{depth, items_depth}
use Rattle.serde_json.specs.View.{view, items_view}
use Rattle.ot_program.specs.Copies.{copies, copies_of, turns, in_order}
use Rattle.ot_why_place.specs.Spots.{trail_bindings}
use Rattle.ot_why_place.specs.Texts.{body_depth}
use Rattle.ot_why_fault.specs.Walk.{walk_on}
use Rattle.ot_why_fault.specs.Whys.{short}
use Rattle.ot_why_fault.proofs.find.Finder.+find.Given as goal

-- a walk through all items goes on through the rest
abbrev pub invariant-items-loop-item : goal.invariant-items-loop-item
invariant-items-loop-item l =
    (nested : ℕ) → l.level ≡ short nested
    → walk_on l.self l.initial.passed (in_order (copies_of l.self.profile nested (items_view l.items) (trail_bindings l.trail)))
    ≡ walk_on l.self l.passed (in_order (copies_of l.self.profile nested (items_view (drop l.item-index l.items)) (trail_bindings l.trail)))

-- a walk through all turns goes on through the rest
abbrev pub invariant-turns-loop-number : goal.invariant-turns-loop-number
invariant-turns-loop-number l =
    (nested : ℕ) → l.level ≡ short nested
    → walk_on l.self l.initial.passed (in_order (turns nested (trail_bindings l.trail)
    (λ n. copies l.self.profile (nested + 1) (view l.body) ((l.turns.variable.now, n) ∷ trail_bindings l.trail)) l.turns.from (l.turns.behind - l.turns.from)))
    ≡ walk_on l.self l.passed (in_order (turns nested (trail_bindings l.trail)
    (λ n. copies l.self.profile (nested + 1) (view l.body) ((l.turns.variable.now, n) ∷ trail_bindings l.trail)) l.number (l.turns.behind - l.number)))

-- each call goes to what nests less deep, or further on in the walk
abbrev pub decreases-body : goal.decreases-body
decreases-body l = 6 * depth (view l.body.now)

abbrev pub decreases-items : goal.decreases-items
decreases-items l = 6 * items_depth (items_view l.items.now) + 5

abbrev pub decreases-statement : goal.decreases-statement
decreases-statement l = 6 * depth (view l.statement.now) + 4

abbrev pub decreases-bodies : goal.decreases-bodies
decreases-bodies l = 6 * body_depth l.text + 3

abbrev pub decreases-turns : goal.decreases-turns
decreases-turns l = 6 * depth (view l.body.now) + 2

abbrev pub decreases-turn : goal.decreases-turn
decreases-turn l = 6 * depth (view l.body.now) + 1
