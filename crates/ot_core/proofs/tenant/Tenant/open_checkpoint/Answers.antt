use Rattle.std.proofs.Common.{◌≡◌, ◌++◌, sym, ap, ◌∙◌, subst, map, true, false}
use Rattle.std.proofs.lemmas.List.{map-append}
use Rattle.ot_book.specs.Answers.{is_checkpoint}
use Rattle.ot_book.specs.Books.{IsFullFor, OpensLine, AnswersNow}
use Rattle.ot_book.specs.ReplyView.{told_of}
use Rattle.ot_core.specs.Accounts.{told_so_far, next_line, IsUnopened, with_reply}
use Rattle.ot_core.specs.AccountView.{account_of}
use Rattle.ot_core.proofs.AccountLemmas.{checkpoint-answered, checkpoint-logged, checkpoint-is, free-next, tenant-replied, read-next}
use Rattle.ot_core.proofs.tenant.Tenant.open_checkpoint.Goals as goal

pub unreachable-requires : goal.unreachable-requires
unreachable-requires c =
    let a = account_of c.self.inside in
    let unopened : IsUnopened a = subst IsUnopened (sym c.self.view_is) c.requires.unopened in
    let line = read-next a _ _ _ c.self.view_is c.line_at.ensures c.answered-next.ensures in
    let asks : is_checkpoint c.line_at.result.now ≡ true = ap is_checkpoint line ∙ ap (λ b. is_checkpoint (next_line b)) c.self.view_is ∙ c.requires.checkpoint in
    checkpoint-answered a.book c.open.new.self c.line_at.result.now _ asks
    (λ full. free-next a c.self.invariant.sound unopened (subst (IsFullFor a.book) line full)) c.in_ok-open.ensures.opened c.in_default.not-Answered

is_replied : (c : goal.After-put_behind) → account_of (record c.self.inside { book = c.open.new.self; kept = c.put_behind.new.kept }) ≡ with_reply (account_of c.self.inside) false
is_replied c =
    let a = account_of c.self.inside in
    let unopened : IsUnopened a = subst IsUnopened (sym c.self.view_is) c.requires.unopened in
    let line = read-next a _ _ _ c.self.view_is c.line_at.ensures c.answered-next.ensures in
    let asks : is_checkpoint c.line_at.result.now ≡ true = ap is_checkpoint line ∙ ap (λ b. is_checkpoint (next_line b)) c.self.view_is ∙ c.requires.checkpoint in
    let now : AnswersNow a.book c.line_at.result.now c.open.new.self = (subst (OpensLine a.book c.line_at.result.now c.open.new.self) c.in-Answered.is c.in_ok-open.ensures.opened).1 in
    let kept : map told_of c.put_behind.new.kept.items ≡ told_so_far a =
    ap (map told_of) c.put_behind.ensures ∙ map-append told_of c.reserve.new.self.items c.in_ok-copies.copies.items
    ∙ ap (λ ts. map told_of ts ++ map told_of c.in_ok-copies.copies.items) c.in_ok-reserve.ensures.items
    ∙ ap (λ ts. a.kept ++ ts) (c.in_ok-copies.ensures ∙ ap (map (λ e. e.1)) c.log.ensures.entries) in
    checkpoint-is a c.open.new.self (map told_of c.put_behind.new.kept.items) c.line_at.result.now asks line
    (checkpoint-logged a.book c.open.new.self c.line_at.result.now asks now) kept unopened.1

pub invariant_of-self-2 : goal.invariant_of-self-2
invariant_of-self-2 c =
    let a = account_of c.self.inside in
    let unopened : IsUnopened a = subst IsUnopened (sym c.self.view_is) c.requires.unopened in
    tenant-replied a false _ c.self.invariant.sound unopened.0 c.self.invariant.since (is_replied c)

pub returns-clause-sound : goal.returns-clause-sound
returns-clause-sound c = (invariant_of-self-2 c).sound

pub returns-clause-replied : goal.returns-clause-replied
returns-clause-replied c = is_replied c ∙ ap (λ b. with_reply b false) c.self.view_is
