use Rattle.std.proofs.Common.{◌≡◌, ◌∙◌, ℕ, ◌+◌, ◌-◌, ◌*◌, ◌∷◌, drop, sym, ap, arith}
use Rattle.std.proofs.lemmas.Result.{on_ok_weaker}
use Rattle.serde_json.specs.Data.{depth, items_depth}
use Rattle.serde_json.specs.View.{view, items_view}
use Rattle.ot_program.specs.Copies.{Copies, copies, copies_of, turns}
use Rattle.ot_program.proofs.Seen.{array_seen}
use Rattle.ot_why_place.specs.Texts.{body_depth}
use Rattle.ot_why_place.specs.Spots.{trail_bindings}
use Rattle.ot_why_place.proofs.CopyLemmas.{no_list, a_list, item_depth}
use Rattle.ot_c_overlap.specs.Items.{items_met_in}
use Rattle.ot_c_overlap.specs.View.{met_by, ground_by}
use Rattle.ot_c_overlap.proofs.WalkLemmas.{items_next, items_none, turns_next, turns_none, statement_met, for_met, if_met}
use Rattle.ot_c_overlap.proofs.walk.Walk.+walk.Goals as goal

pub body-items-requires : goal.body-items-requires
body-items-requires t c =
    let e : depth (view c.args.body.now) ≡ items_depth (items_view c.deref.result.now) + 1 =
    ap depth (array_seen _ _ _ c.in-Array.is c.deref.ensures.value) ∙ omega arith in
    let m : 6 * depth (view c.args.body.now) ≡ t = c.decreases in
    (omega (arith, e, m), tt)

pub body-returns-in-Array : goal.body-returns-in-Array
body-returns-in-Array t c level =
    rw (array_seen _ _ _ c.in-Array.is c.deref.ensures.value, a_list c.args.self.now.profile level c.deref.result.now (trail_bindings c.args.trail.now)) (c.items.ensures level)

pub body-returns-in_default : goal.body-returns-in_default
body-returns-in_default t c level =
    rw (no_list c.args.self.now.profile level c.args.body.now (trail_bindings c.args.trail.now) c.in_default.not-Array) (c.enter.ensures c.args.self.now.profile level)

pub items-statement-requires : goal.items-statement-requires
items-statement-requires t c =
    let e = item_depth c.args.items.now _ _ c.loop-item-test.true c.item-item.is in
    let m : 6 * items_depth (items_view c.args.items.now) + 5 ≡ t = c.decreases in
    (omega (arith, e, m), tt)

pub items-loop-item-preserved : goal.items-loop-item-preserved
items-loop-item-preserved t c level =
    let trail = c.args.trail.now in
    let ground = ground_by c.args.self.now in
    let items = c.args.items.now in
    c.loop-item.invariant level
    ∙ items_next ground c.args.self.now.profile level (trail_bindings trail) c.args.parent items c.loop-item.item-index c.item-item.result (met_by c.loop-item.met)
    c.loop-item-test.true c.item-item.is
    ∙ ap (items_met_in ground c.args.parent (copies_of c.args.self.now.profile level (items_view (drop (c.loop-item.item-index + 1) items)) (trail_bindings trail)))
    (sym (c.in_ok-statement.ensures level))

pub items-returns : goal.items-returns
items-returns t c level =
    let trail = c.args.trail.now in
    sym (c.loop-item.invariant level
    ∙ items_none (ground_by c.args.self.now) c.args.self.now.profile level (trail_bindings trail) c.args.parent c.args.items.now c.loop-item.item-index (met_by c.loop-item.met) c.loop-item-test.false)

pub statement-bodies-requires : goal.statement-bodies-requires
statement-bodies-requires t c =
    let e = c.text_of-text.ensures.shallow in
    let m : 6 * depth (view c.args.statement.now) + 4 ≡ t = c.decreases in
    (omega (arith, e, m), tt)

pub statement-returns : goal.statement-returns
statement-returns t c level =
    let trail = c.args.trail.now in
    on_ok_weaker c.bodies.result
    (λ e. statement_met (ground_by c.args.self.now) c.args.self.now.profile level (trail_bindings trail) c.args.parent (view c.args.statement.now) c.text_of-text.result c.task_of-task.result
    (met_by c.args.met.now) (met_by c.enter.new.met) (met_by c.bodies.new.met) c.text_of-text.ensures.is (c.task_of-task.ensures c.args.self.now.profile)
    (c.in_ok-enter.ensures c.args.self.now.profile level) e)
    (c.bodies.ensures level)

pub bodies-returns-in-For : goal.bodies-returns-in-For
bodies-returns-in-For t c level =
    let trail = c.args.trail.now in
    on_ok_weaker c.turns.result
    (λ e. e ∙ for_met (ground_by c.args.self.now) c.args.self.now.profile level (trail_bindings trail) c.args.task c.args.text _ _ _ _ _ _ _ (met_by c.args.met.now) c.in-For.is
    c.letters.ensures c.size_of.ensures c.size_of-in-For.ensures)
    (c.turns.ensures level)

pub bodies-turns-requires : goal.bodies-turns-requires
bodies-turns-requires t c =
    let e : body_depth c.args.text ≡ depth (view c.in-For.body.now) = ap body_depth c.in-For.is in
    let m : 6 * body_depth c.args.text + 3 ≡ t = c.decreases in
    (omega (arith, e, m), tt)

pub bodies-body-requires-in-GroupBy : goal.bodies-body-requires-in-GroupBy
bodies-body-requires-in-GroupBy t c =
    let e : body_depth c.args.text ≡ depth (view c.in-GroupBy.body.now) = ap body_depth c.in-GroupBy.is in
    let m : 6 * body_depth c.args.text + 3 ≡ t = c.decreases in
    (omega (arith, e, m), tt)

pub bodies-body-requires-in-Task : goal.bodies-body-requires-in-Task
bodies-body-requires-in-Task t c =
    let e : body_depth c.args.text ≡ depth (view c.in-Task.body.now) = ap body_depth c.in-Task.is in
    let m : 6 * body_depth c.args.text + 3 ≡ t = c.decreases in
    (omega (arith, e, m), tt)

pub bodies-body-requires-in-Group : goal.bodies-body-requires-in-Group
bodies-body-requires-in-Group t c =
    let e : body_depth c.args.text ≡ depth (view c.in-Group.body.now) = ap body_depth c.in-Group.is in
    let m : 6 * body_depth c.args.text + 3 ≡ t = c.decreases in
    (omega (arith, e, m), tt)

pub turn-body-requires : goal.turn-body-requires
turn-body-requires t c =
    let m : 6 * depth (view c.args.body.now) + 1 ≡ t = c.decreases in
    (omega (arith, m), tt)

pub turn-returns : goal.turn-returns
turn-returns t c level =
    let trail = c.args.trail.now in
    on_ok_weaker c.body.result
    (λ e. e ∙ ap (items_met_in (ground_by c.args.self.now) c.args.parent (copies c.args.self.now.profile (level + 1) (view c.args.body.now) ((c.args.turn.name.now, c.args.turn.number) ∷ trail_bindings trail)))
    (c.in_ok-enter.ensures c.args.self.now.profile level))
    (c.body.ensures (level + 1))

pub turns-turn-requires : goal.turns-turn-requires
turns-turn-requires t c =
    let m : 6 * depth (view c.args.body.now) + 2 ≡ t = c.decreases in
    (omega (arith, m), tt)

pub turns-loop-number-preserved : goal.turns-loop-number-preserved
turns-loop-number-preserved t c level =
    let trail = c.args.trail.now in
    let body : ℕ → Copies = λ n. copies c.args.self.now.profile (level + 1) (view c.args.body.now) ((c.args.turns.variable.now, n) ∷ trail_bindings trail) in
    c.loop-number.invariant level
    ∙ turns_next (ground_by c.args.self.now) c.args.parent level (trail_bindings trail) body c.loop-number.number c.args.turns.behind (met_by c.loop-number.met) c.loop-number-test.true
    ∙ ap (items_met_in (ground_by c.args.self.now) c.args.parent (turns level (trail_bindings trail) body (c.loop-number.number + 1) (c.args.turns.behind - (c.loop-number.number + 1))))
    (sym (c.in_ok-turn.ensures level))

pub turns-returns : goal.turns-returns
turns-returns t c level =
    let trail = c.args.trail.now in
    sym (c.loop-number.invariant level
    ∙ turns_none (ground_by c.args.self.now) c.args.parent level (trail_bindings trail)
    (λ n. copies c.args.self.now.profile (level + 1) (view c.args.body.now) ((c.args.turns.variable.now, n) ∷ trail_bindings trail)) c.loop-number.number c.args.turns.behind (met_by c.loop-number.met)
    c.loop-number-test.false)

pub bodies-returns-in_ok-body-in-If : goal.bodies-returns-in_ok-body-in-If
bodies-returns-in_ok-body-in-If t c level =
    on_ok_weaker c.body-in-If.result
    (λ e. if_met (ground_by c.args.self.now) c.args.self.now.profile level (trail_bindings c.args.trail.now) c.args.task c.args.text _ _ _ (met_by c.args.met.now) _ _ c.in-If.is
    (c.in_ok-body-in-If.ensures (level + 1)) e)
    (c.body-in-If.ensures (level + 1))
