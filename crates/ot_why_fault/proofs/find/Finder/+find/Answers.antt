use Rattle.std.proofs.Common.{◌≡◌, ◌∙◌, ◌+◌, ◌∷◌, sym, ap, arith}
use Rattle.serde_json.specs.Data.{depth}
use Rattle.serde_json.specs.View.{view}
use Rattle.ot_program.specs.Copies.{copies, in_order, Turn}
use Rattle.ot_program.proofs.Seen.{array_seen}
use Rattle.ot_why_place.specs.Spots.{trail_bindings}
use Rattle.ot_why_place.specs.Texts.{body_depth}
use Rattle.ot_why_place.proofs.CopyLemmas.{no_list, a_list, item_depth}
use Rattle.ot_why_fault.specs.Whys.{shape_of, short}
use Rattle.ot_why_fault.specs.Walk.{walk_step}
use Rattle.ot_why_fault.proofs.WalkLemmas.{seen_as, items_on, items_none, turns_on, turns_none, if_on, for_is, statement_on, one_on}
use Rattle.ot_why_fault.proofs.find.Finder.+find.Goals as goal

pub bodies-body-requires : goal.bodies-body-requires
bodies-body-requires t c = (omega (arith, ap body_depth c.in-If.is, c.decreases), tt)

pub bodies-body-requires-in-Passed : goal.bodies-body-requires-in-Passed
bodies-body-requires-in-Passed t c = (omega (arith, ap body_depth c.in-If.is, c.decreases), tt)

pub bodies-turns-requires : goal.bodies-turns-requires
bodies-turns-requires t c = (omega (arith, ap body_depth c.in-For.is, c.decreases), tt)

pub bodies-body-requires-in-GroupBy : goal.bodies-body-requires-in-GroupBy
bodies-body-requires-in-GroupBy t c = (omega (arith, ap body_depth c.in-GroupBy.is, c.decreases), tt)

pub bodies-body-requires-in-Task : goal.bodies-body-requires-in-Task
bodies-body-requires-in-Task t c = (omega (arith, ap body_depth c.in-Task.is, c.decreases), tt)

pub bodies-body-requires-in-Group : goal.bodies-body-requires-in-Group
bodies-body-requires-in-Group t c = (omega (arith, ap body_depth c.in-Group.is, c.decreases), tt)

pub body-items-requires : goal.body-items-requires
body-items-requires t c = (omega (arith, ap depth (array_seen _ _ _ c.in-Array.is c.deref.ensures.value), c.decreases), tt)

pub items-statement-requires : goal.items-statement-requires
items-statement-requires t c = (omega (arith, item_depth c.args.items.now _ _ c.loop-item-test.true c.item-item.is, c.decreases), tt)

pub statement-bodies-requires : goal.statement-bodies-requires
statement-bodies-requires t c = (omega (arith, c.text_of-text.ensures.shallow, c.decreases), tt)

pub turn-body-requires : goal.turn-body-requires
turn-body-requires t c = (omega (arith, c.decreases), tt)

pub turns-turn-requires : goal.turns-turn-requires
turns-turn-requires t c = (omega (arith, c.decreases), tt)

pub bodies-returns-in-Passed : goal.bodies-returns-in-Passed
bodies-returns-in-Passed t c nested level =
    let inner : _ ≡ short (nested + 1) = omega (arith, level) in
    seen_as c.body-in-Passed.result _ _
    (if_on (shape_of c.args.self.now.arrays.now c.args.self.now.tasks) c.args.self.now.profile nested (trail_bindings c.args.trail.now) c.args.text _ _ _ _ _ _ c.in-If.is (sym (ap walk_step c.in-Passed.is) ∙ c.in_ok-passed-in-If.ensures (nested + 1) inner))
    (c.body-in-Passed.ensures (nested + 1) inner)

pub bodies-returns-in-Met : goal.bodies-returns-in-Met
bodies-returns-in-Met t c nested level =
    sym (if_on (shape_of c.args.self.now.arrays.now c.args.self.now.tasks) c.args.self.now.profile nested (trail_bindings c.args.trail.now) c.args.text _ _ _ _ _ _ c.in-If.is
    (sym (ap walk_step c.in-Met.is) ∙ c.in_ok-passed-in-If.ensures (nested + 1) (omega (arith, level))))

pub bodies-returns-in-For : goal.bodies-returns-in-For
bodies-returns-in-For t c nested level =
    seen_as c.turns.result _ _
    (for_is (shape_of c.args.self.now.arrays.now c.args.self.now.tasks) c.args.self.now.profile nested (trail_bindings c.args.trail.now) c.args.text _ _ _ _ _ _ _ _ _ c.in-For.is
    c.letters.ensures c.size_of.ensures c.size_of-in-For.ensures)
    (c.turns.ensures nested level)

pub body-returns-in-Array : goal.body-returns-in-Array
body-returns-in-Array t c nested level =
    rw (array_seen _ _ _ c.in-Array.is c.deref.ensures.value, a_list c.args.self.now.profile nested c.deref.result.now (trail_bindings c.args.trail.now)) (c.items.ensures nested level)

pub body-returns-in_default : goal.body-returns-in_default
body-returns-in_default t c nested level =
    rw (no_list c.args.self.now.profile nested c.args.body.now (trail_bindings c.args.trail.now) c.in_default.not-Array) (c.enter.ensures nested level)

pub items-returns-in-Met : goal.items-returns-in-Met
items-returns-in-Met t c nested level =
    sym (c.loop-item.invariant nested level
    ∙ items_on (shape_of c.args.self.now.arrays.now c.args.self.now.tasks) c.args.self.now.profile nested (trail_bindings c.args.trail.now) c.args.items.now _ _ _ _ _ c.loop-item-test.true c.item-item.is
    (sym (ap walk_step c.in-Met.is) ∙ c.in_ok-more.ensures nested level))

pub items-loop-item-preserved : goal.items-loop-item-preserved
items-loop-item-preserved t c nested level =
    c.loop-item.invariant nested level
    ∙ items_on (shape_of c.args.self.now.arrays.now c.args.self.now.tasks) c.args.self.now.profile nested (trail_bindings c.args.trail.now) c.args.items.now _ _ _ _ _ c.loop-item-test.true c.item-item.is
    (sym (ap walk_step c.in-Passed.is) ∙ c.in_ok-more.ensures nested level)

pub items-returns : goal.items-returns
items-returns t c nested level =
    sym (c.loop-item.invariant nested level
    ∙ items_none (shape_of c.args.self.now.arrays.now c.args.self.now.tasks) c.args.self.now.profile nested (trail_bindings c.args.trail.now) c.args.items.now _ _ _ c.loop-item-test.false)

pub statement-returns-in-Passed : goal.statement-returns-in-Passed
statement-returns-in-Passed t c nested level =
    seen_as c.bodies.result _ _
    (statement_on (shape_of c.args.self.now.arrays.now c.args.self.now.tasks) c.args.self.now.profile nested (trail_bindings c.args.trail.now) (view c.args.statement.now) c.text_of-text.result _ _ _
    c.text_of-text.ensures.is (sym (ap walk_step c.in-Passed.is) ∙ c.in_ok-passed.ensures nested level))
    (c.bodies.ensures nested level)

pub statement-returns-in-Met : goal.statement-returns-in-Met
statement-returns-in-Met t c nested level =
    sym (statement_on (shape_of c.args.self.now.arrays.now c.args.self.now.tasks) c.args.self.now.profile nested (trail_bindings c.args.trail.now) (view c.args.statement.now) c.text_of-text.result _ _ _
    c.text_of-text.ensures.is (sym (ap walk_step c.in-Met.is) ∙ c.in_ok-passed.ensures nested level))

pub turn-returns-in-Passed : goal.turn-returns-in-Passed
turn-returns-in-Passed t c nested level =
    seen_as c.body.result _ _
    (one_on (shape_of c.args.self.now.arrays.now c.args.self.now.tasks) (record { level = nested; variables = trail_bindings c.args.trail.now; text = Turn })
    (in_order (copies c.args.self.now.profile (nested + 1) (view c.args.body.now) ((c.args.turn.name.now, c.args.turn.number) ∷ trail_bindings c.args.trail.now)))
    c.args.passed.entries c.args.passed.counts _ (sym (ap walk_step c.in-Passed.is) ∙ c.in_ok-passed.ensures nested level))
    (c.body.ensures (nested + 1) (omega (arith, level)))

pub turn-returns-in-Met : goal.turn-returns-in-Met
turn-returns-in-Met t c nested level =
    sym (one_on (shape_of c.args.self.now.arrays.now c.args.self.now.tasks) (record { level = nested; variables = trail_bindings c.args.trail.now; text = Turn })
    (in_order (copies c.args.self.now.profile (nested + 1) (view c.args.body.now) ((c.args.turn.name.now, c.args.turn.number) ∷ trail_bindings c.args.trail.now)))
    c.args.passed.entries c.args.passed.counts _ (sym (ap walk_step c.in-Met.is) ∙ c.in_ok-passed.ensures nested level))

pub turns-returns-in-Met : goal.turns-returns-in-Met
turns-returns-in-Met t c nested level =
    sym (c.loop-number.invariant nested level
    ∙ turns_on (shape_of c.args.self.now.arrays.now c.args.self.now.tasks) nested (trail_bindings c.args.trail.now)
    (λ n. copies c.args.self.now.profile (nested + 1) (view c.args.body.now) ((c.args.turns.variable.now, n) ∷ trail_bindings c.args.trail.now)) _ _ _ _ _ c.loop-number-test.true
    (sym (ap walk_step c.in-Met.is) ∙ c.in_ok-more.ensures nested level))

pub turns-loop-number-preserved : goal.turns-loop-number-preserved
turns-loop-number-preserved t c nested level =
    c.loop-number.invariant nested level
    ∙ turns_on (shape_of c.args.self.now.arrays.now c.args.self.now.tasks) nested (trail_bindings c.args.trail.now)
    (λ n. copies c.args.self.now.profile (nested + 1) (view c.args.body.now) ((c.args.turns.variable.now, n) ∷ trail_bindings c.args.trail.now)) _ _ _ _ _ c.loop-number-test.true
    (sym (ap walk_step c.in-Passed.is) ∙ c.in_ok-more.ensures nested level)

pub turns-returns : goal.turns-returns
turns-returns t c nested level =
    sym (c.loop-number.invariant nested level
    ∙ turns_none (shape_of c.args.self.now.arrays.now c.args.self.now.tasks) nested (trail_bindings c.args.trail.now)
    (λ n. copies c.args.self.now.profile (nested + 1) (view c.args.body.now) ((c.args.turns.variable.now, n) ∷ trail_bindings c.args.trail.now)) _ _ _ _ c.loop-number-test.false)
