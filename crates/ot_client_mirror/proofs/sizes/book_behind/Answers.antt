use Rattle.std.proofs.Common.{[], ap, ◌∙◌}
use Rattle.ot_store.specs.Refusals.{usual_limits}
use Rattle.ot_book.specs.Books.{new_register}
use Rattle.ot_client_mirror.proofs.GivenLemmas.{given_full, given_answered, given_run}
use Rattle.ot_client_mirror.proofs.sizes.book_behind.Goals as goal

pub returns-in-ToRun : goal.returns-in-ToRun
returns-in-ToRun c =
    let first = c.in_ok-book.ensures ∙ ap (λ l. new_register [] l c.in_ok-copy.field-0) c.usual.ensures ∙ ap (λ s. new_register [] usual_limits s) c.in_ok-copy.ensures in
    given_run c.args.store.now c.args.line.now _ _ _ _ c.in-ToRun.spec first c.in_ok-spec.ensures.opened c.in-ToRun.is c.forget.ensures

pub returns-in-Answered : goal.returns-in-Answered
returns-in-Answered c =
    let first = c.in_ok-book.ensures ∙ ap (λ l. new_register [] l c.in_ok-copy.field-0) c.usual.ensures ∙ ap (λ s. new_register [] usual_limits s) c.in_ok-copy.ensures in
    given_answered c.args.store.now c.args.line.now _ _ _ first c.in_ok-spec.ensures.opened c.in-Answered.is

pub unreachable-requires : goal.unreachable-requires
unreachable-requires c =
    let first = c.in_ok-book.ensures ∙ ap (λ l. new_register [] l c.in_ok-copy.field-0) c.usual.ensures ∙ ap (λ s. new_register [] usual_limits s) c.in_ok-copy.ensures in
    given_full c.args.store.now c.args.line.now _ _ _ first c.in_ok-spec.ensures.opened c.in-Full.is
