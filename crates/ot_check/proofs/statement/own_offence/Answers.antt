use Rattle.std.proofs.Common.{sym, ◌∙◌}
use Rattle.ot_model.specs.View.{stmt_of}
use Rattle.ot_check.specs.Discipline.{is_marked}
use Rattle.ot_check.proofs.OffenceLemmas.{marked-unending}
use Rattle.ot_check.proofs.TellingLemmas.{leading-none}
use Rattle.ot_check.proofs.statement.own_offence.Goals as goal

pub returns : goal.returns
returns c = λ own opened children decls h.
    let x = stmt_of c.args.stmt.now in
    sym (leading-none (is_marked own opened children x)
    (sym (c.is_offence.ensures own opened children decls h) ∙ c.if-is_offence.false)
    (sym (c.is_offence-2.ensures own opened children decls h) ∙ c.if-is_offence-2.false)
    (sym (c.is_offence-3.ensures own opened children decls h) ∙ c.if-is_offence-3.false)
    (sym (c.is_offence-4.ensures own opened children decls h) ∙ c.if-is_offence-4.false)
    (marked-unending own opened children x))
