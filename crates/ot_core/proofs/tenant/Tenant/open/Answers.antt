use Rattle.std.proofs.Common.{sym, ap, ◌∙◌, subst, true, Some}
use Rattle.ot_book.specs.Answers.{is_checkpoint}
use Rattle.ot_book.specs.Books.{IsOpenFor, request_opened, request_refused, IsFullFor, OpensLine, AnswersNow}
use Rattle.ot_core.specs.Accounts.{IsSoundAccount, room_asked, next_line, IsUnopened, Waits}
use Rattle.ot_core.specs.AccountView.{account_of}
use Rattle.ot_core.proofs.AccountLemmas.{free-next, tenant-replied, read-next, sound-opened, answered-is, opened-is}
use Rattle.ot_core.proofs.tenant.Tenant.open.Goals as goal

pub open_checkpoint-requires-clause-checkpoint : goal.open_checkpoint-requires-clause-checkpoint
open_checkpoint-requires-clause-checkpoint c =
    let line = read-next (account_of c.self.inside) _ _ _ c.self.view_is c.line_at-line.ensures c.answered-next.ensures ∙ ap next_line c.self.view_is in
    ap is_checkpoint (sym line) ∙ sym c.in_ok-is_checkpoint.ensures ∙ c.if-branch.true

pub unreachable-requires : goal.unreachable-requires
unreachable-requires c =
    let a = account_of c.self.inside in
    let free : IsUnopened a = subst IsUnopened (sym c.self.view_is) c.requires in
    let now = subst (OpensLine a.book c.line_at-line.result.now c.open.new.self) c.in-Full.is c.in_ok-open.ensures.opened in
    free-next a c.self.invariant.sound free (subst (IsFullFor a.book) (read-next a _ _ _ c.self.view_is c.line_at-line.ensures c.answered-next.ensures) now.0)

pub invariant_of-self-in-Answered : goal.invariant_of-self-in-Answered
invariant_of-self-in-Answered c =
    let a = account_of c.self.inside in
    let free : IsUnopened a = subst IsUnopened (sym c.self.view_is) c.requires in
    let now : AnswersNow a.book c.line_at-line.result.now c.open.new.self = (subst (OpensLine a.book c.line_at-line.result.now c.open.new.self) c.in-Answered.is c.in_ok-open.ensures.opened).1 in
    tenant-replied a now.memory _ c.self.invariant.sound free.0 c.self.invariant.since
    (answered-is a _ _ now.memory (sym c.in_ok-is_checkpoint.ensures ∙ c.if-branch.false) (read-next a _ _ _ c.self.view_is c.line_at-line.ensures c.answered-next.ensures) now.new_is free.1)

pub returns-in-Answered-clause-sound : goal.returns-in-Answered-clause-sound
returns-in-Answered-clause-sound c = (invariant_of-self-in-Answered c).sound

pub invariant_of-self-in_default : goal.invariant_of-self-in_default
invariant_of-self-in_default c =
    let a = account_of c.self.inside in
    let free : IsUnopened a = subst IsUnopened (sym c.self.view_is) c.requires in
    let now = subst (OpensLine a.book c.line_at-line.result.now c.open.new.self) c.in-ToRun.is c.in_ok-open.ensures.opened in
    tenant-replied a true _ c.self.invariant.sound free.0 c.self.invariant.since
    (answered-is a _ _ true (sym c.in_ok-is_checkpoint.ensures ∙ c.if-branch.false) (read-next a _ _ _ c.self.view_is c.line_at-line.ensures c.answered-next.ensures) (c.close_refused.ensures ∙ ap request_refused now.1) free.1)

pub returns-in_default-clause-sound : goal.returns-in_default-clause-sound
returns-in_default-clause-sound c = (invariant_of-self-in_default c).sound

pub invariant_of-self-2 : goal.invariant_of-self-2
invariant_of-self-2 c =
    let a = account_of c.self.inside in
    let free : IsUnopened a = subst IsUnopened (sym c.self.view_is) c.requires in
    let line = read-next a _ _ _ c.self.view_is c.line_at-line.ensures c.answered-next.ensures in
    let now = subst (OpensLine a.book c.line_at-line.result.now c.open.new.self) c.in-ToRun.is c.in_ok-open.ensures.opened in
    let runs : IsOpenFor (request_opened a.book (next_line a)) c.in-ToRun.spec = subst (λ b. IsOpenFor b c.in-ToRun.spec) (now.1 ∙ ap (request_opened a.book) line) now.2 in
    let is = opened-is a c.open.new.self c.line_at-line.result.now c.in-ToRun.spec line now.1 in record {
      sound = subst IsSoundAccount (sym is) (sound-opened a c.in-ToRun.spec c.self.invariant.sound free.0 runs);
      since = c.self.invariant.since ∙ ap (λ b. (room_asked b).entries) (sym is);
    }

pub returns-clause-opened : goal.returns-clause-opened
returns-clause-opened c =
    let a = account_of c.self.inside in
    let free : IsUnopened a = subst IsUnopened (sym c.self.view_is) c.requires in
    let line = read-next a _ _ _ c.self.view_is c.line_at-line.ensures c.answered-next.ensures in
    let now = subst (OpensLine a.book c.line_at-line.result.now c.open.new.self) c.in-ToRun.is c.in_ok-open.ensures.opened in
    let runs : IsOpenFor (request_opened a.book (next_line a)) c.in-ToRun.spec = subst (λ b. IsOpenFor b c.in-ToRun.spec) (now.1 ∙ ap (request_opened a.book) line) now.2 in
    subst (λ o. Waits o c.in-Ok.copy (account_of (record c.self.inside { book = c.open.new.self; spec = Some c.in-ToRun.spec }))) c.self.view_is (record {
      spec = c.in-ToRun.spec;
      same = c.in-Ok.ensures;
      runs = runs;
      new_is = opened-is a c.open.new.self c.line_at-line.result.now c.in-ToRun.spec line now.1;
    })

pub returns-clause-sound : goal.returns-clause-sound
returns-clause-sound c = (invariant_of-self-2 c).sound
