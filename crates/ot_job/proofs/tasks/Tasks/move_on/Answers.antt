use Rattle.std.proofs.Common.{◌≡◌, ◌∙◌, ap, sym, arith, List, Bool, length, if◌then◌else◌}
use Rattle.ot_job.proofs.Common.{IfOk-weaker, Region, control_executed, tasks_next, is_at_end, at, region_ended_at}
use Rattle.ot_job.proofs.ClaimableLemmas.{at-here}
use Rattle.ot_job.proofs.SettleLemmas.{none-next}
use Rattle.ot_job.proofs.tasks.Tasks.move_on.Goals.{After-is_at_end, After-tasks_next}
use Rattle.ot_job.proofs.tasks.Tasks.move_on.Goals as goal

ends : (c : After-is_at_end) → is_at_end (at c.args.self.now c.args.i).rest (at c.args.self.now c.args.i).groups ≡ c.is_at_end.result
ends c =
    let here = at-here c.self.inside.tasks.items c.args.i c.index.result.now (omega (arith, c.requires.piece.known, ap length c.self.view_is)) c.index.ensures in
    ap (λ (r : Region). is_at_end r.rest r.groups) (sym (ap (λ (l : List Region). at l c.args.i) c.self.view_is) ∙ here) ∙ sym c.is_at_end.ensures

next : (c : After-tasks_next) → tasks_next (at c.args.self.now c.args.i).rest ≡ c.tasks_next.result
next c =
    let here = at-here c.self.inside.tasks.items c.args.i c.index-else-is_at_end.result.now (omega (arith, c.requires.piece.known, ap length c.self.view_is)) c.index-else-is_at_end.ensures in
    ap (λ (r : Region). tasks_next r.rest) (sym (ap (λ (l : List Region). at l c.args.i) c.self.view_is) ∙ here) ∙ sym c.tasks_next.ensures.exact

pub index-requires : goal.index-requires
index-requires c = omega (arith, c.requires.piece.known, ap length c.self.view_is, c.self.inside.tasks.ok.0)

pub index-requires-else-is_at_end : goal.index-requires-else-is_at_end
index-requires-else-is_at_end c = omega (arith, c.requires.piece.known, ap length c.self.view_is, c.self.inside.tasks.ok.0)

pub advance-requires : goal.advance-requires
advance-requires c = record { piece = c.requires.piece; none = next (goal.at.advance-requires c).After-tasks_next ∙ c.if-tasks_next-eq0.true }

pub create-requires : goal.create-requires
create-requires c = record { piece = c.requires.piece; some = λ none. c.if-tasks_next-eq0.false (sym (next (goal.at.create-requires c).After-tasks_next) ∙ none) }

pub returns-then-is_at_end-clause-ordered : goal.returns-then-is_at_end-clause-ordered
returns-then-is_at_end-clause-ordered c = λ child is.
    let r = at c.args.self.now c.args.i in
    none-next r.rest r.groups (ends (goal.at.returns-then-is_at_end-clause-ordered c).After-is_at_end ∙ c.if-is_at_end.true) child is

pub returns-then-is_at_end-clause-moved : goal.returns-then-is_at_end-clause-moved
returns-then-is_at_end-clause-moved c =
    let at_end = ends (goal.at.returns-then-is_at_end-clause-moved c).After-is_at_end ∙ c.if-is_at_end.true in
    c.close.ensures ∙ ap (λ (b : Bool). if b then region_ended_at c.args.i c.args.self.now else control_executed c.args.taken c.args.group c.args.i c.args.self.now) (sym at_end)

pub returns-then-tasks_next-eq0-clause-moved : goal.returns-then-tasks_next-eq0-clause-moved
returns-then-tasks_next-eq0-clause-moved c =
    let ahead = ends (goal.at.returns-then-tasks_next-eq0-clause-moved c).After-is_at_end ∙ c.if-is_at_end.false in
    IfOk-weaker c.advance.result _ _ (λ x is. is ∙ ap (λ (b : Bool). if b then region_ended_at c.args.i c.args.self.now else control_executed c.args.taken c.args.group c.args.i c.args.self.now) (sym ahead)) c.advance.ensures.executed

pub returns-else-tasks_next-eq0-clause-moved : goal.returns-else-tasks_next-eq0-clause-moved
returns-else-tasks_next-eq0-clause-moved c =
    let ahead = ends (goal.at.returns-else-tasks_next-eq0-clause-moved c).After-is_at_end ∙ c.if-is_at_end.false in
    IfOk-weaker c.create.result _ _ (λ x is. is ∙ ap (λ (b : Bool). if b then region_ended_at c.args.i c.args.self.now else control_executed c.args.taken c.args.group c.args.i c.args.self.now) (sym ahead)) c.create.ensures.executed
