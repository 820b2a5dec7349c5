use Rattle.std.proofs.Common.{rules, ◌≡◌, ap, sym, ◌∙◌}
use Rattle.std.specs.List.{list_any}
use Rattle.ot_model.specs.Tree.{Set, Fold, If, Task, cells_named}
use Rattle.ot_model.specs.View.{stmt_of, stmts_of, expr_of}
use Rattle.ot_model.specs.declared.stmt.Stmt.{the_lemmas}
use Rattle.ot_model.specs.declared.stmt.Mode.TheVariants.{Writes, Folds}
use Rattle.ot_check.specs.Offences.{Touch, use_as, exceeds, misfits}
use Rattle.ot_check.specs.Discipline.{may_break, is_marked}
use Rattle.ot_check.specs.walk.States.{is_open}
use Rattle.ot_check.specs.declared.fault.Offence.TheVariants.{ChildBeyond, ReductionMisuse}
use Rattle.ot_check.proofs.OpeningLemmas.{openings-same}
use Rattle.ot_check.proofs.OffenceLemmas.{reading, either_met, either_other, is_marked-Set, is_marked-Fold, is_marked-If, is_marked-ChildBeyond, is_marked-ReductionMisuse}
use Rattle.ot_check.proofs.statement.is_offence.Goals as goal

pub returns-then-value_breaks : goal.returns-then-value_breaks
returns-then-value_breaks c = λ own opened children decls h.
    let is : stmt_of c.args.stmt.now ≡ Set c.in-Set.cell (expr_of c.in-Set.expr) = search (rules, the_lemmas) in
    either_met _ (reading own opened children c.args.offence (cells_named (expr_of c.in-Set.expr))) (may_break own opened children (Touch (use_as Writes c.in-Set.cell)) c.args.offence)
    (c.value_breaks.ensures own opened children decls h) c.if-value_breaks.true
    ∙ sym (ap (λ x. is_marked own opened children x c.args.offence) is ∙ is_marked-Set own opened children c.in-Set.cell (expr_of c.in-Set.expr) c.args.offence)

pub returns-else-value_breaks : goal.returns-else-value_breaks
returns-else-value_breaks c = λ own opened children decls h.
    let is : stmt_of c.args.stmt.now ≡ Set c.in-Set.cell (expr_of c.in-Set.expr) = search (rules, the_lemmas) in
    either_other _ _ (reading own opened children c.args.offence (cells_named (expr_of c.in-Set.expr))) (may_break own opened children (Touch (use_as Writes c.in-Set.cell)) c.args.offence)
    (c.value_breaks.ensures own opened children decls h) c.if-value_breaks.false (c.touch_breaks.ensures own opened children decls h)
    ∙ sym (ap (λ x. is_marked own opened children x c.args.offence) is ∙ is_marked-Set own opened children c.in-Set.cell (expr_of c.in-Set.expr) c.args.offence)

pub returns-then-value_breaks-2 : goal.returns-then-value_breaks-2
returns-then-value_breaks-2 c = λ own opened children decls h.
    let is : stmt_of c.args.stmt.now ≡ Fold c.in-Fold.op c.in-Fold.cell (expr_of c.in-Fold.expr) = search (rules, the_lemmas) in
    either_met _ (reading own opened children c.args.offence (cells_named (expr_of c.in-Fold.expr))) (may_break own opened children (Touch (use_as (Folds c.in-Fold.op) c.in-Fold.cell)) c.args.offence)
    (c.value_breaks-in-Fold.ensures own opened children decls h) c.if-value_breaks-2.true
    ∙ sym (ap (λ x. is_marked own opened children x c.args.offence) is ∙ is_marked-Fold own opened children c.in-Fold.op c.in-Fold.cell (expr_of c.in-Fold.expr) c.args.offence)

pub returns-else-value_breaks-2 : goal.returns-else-value_breaks-2
returns-else-value_breaks-2 c = λ own opened children decls h.
    let is : stmt_of c.args.stmt.now ≡ Fold c.in-Fold.op c.in-Fold.cell (expr_of c.in-Fold.expr) = search (rules, the_lemmas) in
    either_other _ _ (reading own opened children c.args.offence (cells_named (expr_of c.in-Fold.expr))) (may_break own opened children (Touch (use_as (Folds c.in-Fold.op) c.in-Fold.cell)) c.args.offence)
    (c.value_breaks-in-Fold.ensures own opened children decls h) c.if-value_breaks-2.false (c.touch_breaks-else-value_breaks-2.ensures own opened children decls h)
    ∙ sym (ap (λ x. is_marked own opened children x c.args.offence) is ∙ is_marked-Fold own opened children c.in-Fold.op c.in-Fold.cell (expr_of c.in-Fold.expr) c.args.offence)

pub returns-in-If : goal.returns-in-If
returns-in-If c = λ own opened children decls h.
    let is : stmt_of c.args.stmt.now ≡ If (expr_of c.in-If.expr) (stmts_of c.in-If.field-1.items) (stmts_of c.in-If.field-2.items) = search (rules, the_lemmas) in
    c.value_breaks-in-If.ensures own opened children decls h
    ∙ sym (ap (λ x. is_marked own opened children x c.args.offence) is ∙ is_marked-If own opened children (expr_of c.in-If.expr) (stmts_of c.in-If.field-1.items) (stmts_of c.in-If.field-2.items) c.args.offence)

pub returns-in-ChildBeyond : goal.returns-in-ChildBeyond
returns-in-ChildBeyond c = λ own opened children decls h.
    let is : stmt_of c.args.stmt.now ≡ Task c.in-Task.decl (stmts_of c.in-Task.field-1.items) = search (rules, the_lemmas) in
    c.exceeds.ensures ∙ ap (λ own. list_any (exceeds own) c.in-Task.decl) h.declares
    ∙ sym (ap (λ o. is_marked own opened children (stmt_of c.args.stmt.now) o) c.in-ChildBeyond.is ∙ ap (λ x. is_marked own opened children x ChildBeyond) is
    ∙ is_marked-ChildBeyond own opened children c.in-Task.decl (stmts_of c.in-Task.field-1.items))

pub returns-in-ReductionMisuse : goal.returns-in-ReductionMisuse
returns-in-ReductionMisuse c = λ own opened children decls h.
    let is : stmt_of c.args.stmt.now ≡ Task c.in-Task.decl (stmts_of c.in-Task.field-1.items) = search (rules, the_lemmas) in
    c.misfits.ensures ∙ ap (λ own. list_any (misfits own (is_open c.args.standing.now.region.opened)) c.in-Task.decl) h.declares
    ∙ ap (λ opened. list_any (misfits own opened) c.in-Task.decl) (openings-same (is_open c.args.standing.now.region.opened) opened h.grouped)
    ∙ sym (ap (λ o. is_marked own opened children (stmt_of c.args.stmt.now) o) c.in-ReductionMisuse.is ∙ ap (λ x. is_marked own opened children x ReductionMisuse) is
    ∙ is_marked-ReductionMisuse own opened children c.in-Task.decl (stmts_of c.in-Task.field-1.items))
