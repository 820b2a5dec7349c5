use Rattle.std.proofs.Common.{◌≡◌, ◌∙◌, ◌+◌, ◌*◌, ◌∷◌, max, sym, ap, arith}
use Rattle.serde_json.specs.Data.{depth, items_depth}
use Rattle.serde_json.specs.View.{view, items_view}
use Rattle.ot_program.specs.Copies.{copies, Turn}
use Rattle.ot_program.proofs.Seen.{array_seen}
use Rattle.ot_why_place.specs.Spots.{spot, path_of, trail_bindings}
use Rattle.ot_why_place.specs.Seeking.{step_by, counts_by}
use Rattle.ot_why_place.specs.Texts.{body_depth}
use Rattle.ot_why_place.proofs.CopyLemmas.{no_list, a_list, item_depth}
use Rattle.ot_why_place.proofs.SeekLemmas.{items_pass, items_end, items_none, turns_pass, turns_end, turns_none}
use Rattle.ot_why_place.proofs.BodyLemmas.{seen_as, if_passes, if_ends, for_is, statement_passes, statement_ends, one_passes, one_ends}
use Rattle.ot_why_place.proofs.walk.Walk.+walk.Goals as goal

pub bodies-body-requires : goal.bodies-body-requires
bodies-body-requires t c =
    let e : body_depth c.args.text ≡ max (depth (view c.in-If.one.now)) (depth (view c.in-If.two.now)) = ap body_depth c.in-If.is in
    let m : 6 * body_depth c.args.text + 3 ≡ t = c.decreases in
    (omega (arith, e, m), tt)

pub bodies-body-requires-in-Skipped : goal.bodies-body-requires-in-Skipped
bodies-body-requires-in-Skipped t c =
    let e : body_depth c.args.text ≡ max (depth (view c.in-If.one.now)) (depth (view c.in-If.two.now)) = ap body_depth c.in-If.is in
    let m : 6 * body_depth c.args.text + 3 ≡ t = c.decreases in
    (omega (arith, e, m), tt)

pub bodies-turns-requires : goal.bodies-turns-requires
bodies-turns-requires t c =
    let e : body_depth c.args.text ≡ depth (view c.in-For.body.now) = ap body_depth c.in-For.is in
    let m : 6 * body_depth c.args.text + 3 ≡ t = c.decreases in
    (omega (arith, e, m), tt)

pub bodies-body-requires-in-GroupBy : goal.bodies-body-requires-in-GroupBy
bodies-body-requires-in-GroupBy t c =
    let e : body_depth c.args.text ≡ depth (view c.in-GroupBy.body.now) = ap body_depth c.in-GroupBy.is in
    let m : 6 * body_depth c.args.text + 3 ≡ t = c.decreases in
    (omega (arith, e, m), tt)

pub bodies-body-requires-in-Task : goal.bodies-body-requires-in-Task
bodies-body-requires-in-Task t c =
    let e : body_depth c.args.text ≡ depth (view c.in-Task.body.now) = ap body_depth c.in-Task.is in
    let m : 6 * body_depth c.args.text + 3 ≡ t = c.decreases in
    (omega (arith, e, m), tt)

pub bodies-body-requires-in-Group : goal.bodies-body-requires-in-Group
bodies-body-requires-in-Group t c =
    let e : body_depth c.args.text ≡ depth (view c.in-Group.body.now) = ap body_depth c.in-Group.is in
    let m : 6 * body_depth c.args.text + 3 ≡ t = c.decreases in
    (omega (arith, e, m), tt)

pub bodies-returns-in-Skipped : goal.bodies-returns-in-Skipped
bodies-returns-in-Skipped t c level =
    let trail = c.args.trail.now in
    seen_as c.body-in-Skipped.result _ _
    (if_passes (counts_by c.args.self.now.which) c.args.self.now.profile level (trail_bindings trail) (path_of trail) c.args.text _ _ _ _ _ c.in-If.is
    (sym (ap step_by c.in-Skipped.is) ∙ c.in_ok-left-in-If.ensures (level + 1)))
    (c.body-in-Skipped.ensures (level + 1))

pub bodies-returns-in-Met : goal.bodies-returns-in-Met
bodies-returns-in-Met t c level =
    let trail = c.args.trail.now in
    if_ends (counts_by c.args.self.now.which) c.args.self.now.profile level (trail_bindings trail) (path_of trail) c.args.text _ _ _ _ _ _ c.in-If.is
    (sym (ap step_by c.in-Met.is) ∙ c.in_ok-left-in-If.ensures (level + 1))

pub bodies-returns-in-For : goal.bodies-returns-in-For
bodies-returns-in-For t c level =
    let trail = c.args.trail.now in
    seen_as c.turns.result _ _
    (for_is (counts_by c.args.self.now.which) c.args.self.now.profile level (trail_bindings trail) (path_of trail) c.args.text _ _ _ _ _ _ _ _ c.in-For.is
    c.letters.ensures c.size_of.ensures c.size_of-in-For.ensures)
    (c.turns.ensures level)

pub body-items-requires : goal.body-items-requires
body-items-requires t c =
    let e : depth (view c.args.body.now) ≡ items_depth (items_view c.deref.result.now) + 1 =
    ap depth (array_seen _ _ _ c.in-Array.is c.deref.ensures.value) ∙ omega arith in
    let m : 6 * depth (view c.args.body.now) ≡ t = c.decreases in
    (omega (arith, e, m), tt)

pub body-returns-in-Array : goal.body-returns-in-Array
body-returns-in-Array t c level =
    rw (array_seen _ _ _ c.in-Array.is c.deref.ensures.value, a_list c.args.self.now.profile level c.deref.result.now (trail_bindings c.args.trail.now)) (c.items.ensures level)

pub body-returns-in_default : goal.body-returns-in_default
body-returns-in_default t c level =
    rw (no_list c.args.self.now.profile level c.args.body.now (trail_bindings c.args.trail.now) c.in_default.not-Array) (c.visit.ensures level)

pub items-statement-requires : goal.items-statement-requires
items-statement-requires t c =
    let e = item_depth c.args.items.now _ _ c.loop-index-test.true c.index-items-index.is in
    let m : 6 * items_depth (items_view c.args.items.now) + 5 ≡ t = c.decreases in
    (omega (arith, e, m), tt)

pub items-returns-in-Met : goal.items-returns-in-Met
items-returns-in-Met t c level =
    let trail = c.args.trail.now in
    items_end (counts_by c.args.self.now.which) c.args.self.now.profile level (trail_bindings trail) (path_of trail) c.args.items.now _ _ _ _ _
    c.loop-index-test.true c.index-items-index.is (sym (ap step_by c.in-Met.is) ∙ c.in_ok-fewer.ensures level)
    ∙ sym (c.loop-index.invariant level)

pub items-loop-index-preserved : goal.items-loop-index-preserved
items-loop-index-preserved t c level =
    let trail = c.args.trail.now in
    c.loop-index.invariant level
    ∙ items_pass (counts_by c.args.self.now.which) c.args.self.now.profile level (trail_bindings trail) (path_of trail) c.args.items.now _ _ _ _
    c.loop-index-test.true c.index-items-index.is (sym (ap step_by c.in-Skipped.is) ∙ c.in_ok-fewer.ensures level)

pub items-returns : goal.items-returns
items-returns t c level =
    let trail = c.args.trail.now in
    sym (c.loop-index.invariant level
    ∙ items_none (counts_by c.args.self.now.which) c.args.self.now.profile level (trail_bindings trail) (path_of trail) c.args.items.now _ _ c.loop-index-test.false)

pub statement-bodies-requires : goal.statement-bodies-requires
statement-bodies-requires t c =
    let e = c.text_of-text.ensures.shallow in
    let m : 6 * depth (view c.args.statement.now) + 4 ≡ t = c.decreases in
    (omega (arith, e, m), tt)

pub statement-returns-in-Skipped : goal.statement-returns-in-Skipped
statement-returns-in-Skipped t c level =
    let trail = c.args.trail.now in
    seen_as c.bodies.result _ _
    (statement_passes (counts_by c.args.self.now.which) c.args.self.now.profile level (trail_bindings trail) (path_of trail) (view c.args.statement.now) c.text_of-text.result _ _
    (c.text_of-text.ensures.is) (sym (ap step_by c.in-Skipped.is) ∙ c.in_ok-left.ensures level))
    (c.bodies.ensures level)

pub statement-returns-in-Met : goal.statement-returns-in-Met
statement-returns-in-Met t c level =
    let trail = c.args.trail.now in
    statement_ends (counts_by c.args.self.now.which) c.args.self.now.profile level (trail_bindings trail) (path_of trail) (view c.args.statement.now) c.text_of-text.result _ _ _
    (c.text_of-text.ensures.is) (sym (ap step_by c.in-Met.is) ∙ c.in_ok-left.ensures level)

pub turn-body-requires : goal.turn-body-requires
turn-body-requires t c =
    let m : 6 * depth (view c.args.body.now) + 1 ≡ t = c.decreases in
    (omega (arith, m), tt)

pub turn-returns-in-Skipped : goal.turn-returns-in-Skipped
turn-returns-in-Skipped t c level =
    let trail = c.args.trail.now in
    seen_as c.body.result _ _
    (one_passes (counts_by c.args.self.now.which) (spot (path_of trail) (record { level = level; variables = trail_bindings trail; text = Turn })) _ _ _ (sym (ap step_by c.in-Skipped.is) ∙ c.in_ok-left.ensures level))
    (c.body.ensures (level + 1))

pub turn-returns-in-Met : goal.turn-returns-in-Met
turn-returns-in-Met t c level =
    let trail = c.args.trail.now in
    one_ends (counts_by c.args.self.now.which) (spot (path_of trail) (record { level = level; variables = trail_bindings trail; text = Turn })) _ _ _ _ (sym (ap step_by c.in-Met.is) ∙ c.in_ok-left.ensures level)

pub turns-turn-requires : goal.turns-turn-requires
turns-turn-requires t c =
    let m : 6 * depth (view c.args.body.now) + 2 ≡ t = c.decreases in
    (omega (arith, m), tt)

pub turns-returns-in-Met : goal.turns-returns-in-Met
turns-returns-in-Met t c level =
    let trail = c.args.trail.now in
    turns_end (counts_by c.args.self.now.which) (path_of trail) level (trail_bindings trail)
    (λ n. copies c.args.self.now.profile (level + 1) (view c.args.body.now) ((c.args.turns.variable.now, n) ∷ trail_bindings trail)) _ _ _ _ _
    c.loop-number-test.true (sym (ap step_by c.in-Met.is) ∙ c.in_ok-fewer.ensures level)
    ∙ sym (c.loop-number.invariant level)

pub turns-loop-number-preserved : goal.turns-loop-number-preserved
turns-loop-number-preserved t c level =
    let trail = c.args.trail.now in
    c.loop-number.invariant level
    ∙ turns_pass (counts_by c.args.self.now.which) (path_of trail) level (trail_bindings trail)
    (λ n. copies c.args.self.now.profile (level + 1) (view c.args.body.now) ((c.args.turns.variable.now, n) ∷ trail_bindings trail)) _ _ _ _
    c.loop-number-test.true (sym (ap step_by c.in-Skipped.is) ∙ c.in_ok-fewer.ensures level)

pub turns-returns : goal.turns-returns
turns-returns t c level =
    let trail = c.args.trail.now in
    sym (c.loop-number.invariant level
    ∙ turns_none (counts_by c.args.self.now.which) (path_of trail) level (trail_bindings trail)
    (λ n. copies c.args.self.now.profile (level + 1) (view c.args.body.now) ((c.args.turns.variable.now, n) ∷ trail_bindings trail)) _ _ _ c.loop-number-test.false)
