use Rattle.std.proofs.Common.{◌≡◌, ◌-◌, ◌<◌, refl, ap, ◌∙◌, arith, length}
use Rattle.std.specs.Prelude.{slice_get, option_map, Some}
use Rattle.std.proofs.lemmas.List.{length-map}
use Rattle.std.proofs.lemmas.Option.{slice_get-map, slice_get_read}
use Rattle.ot_book.specs.ReplyView.{told_of}
use Rattle.ot_core.specs.AccountView.{account_of}
use Rattle.ot_core.specs.Accounts.{reply_in}
use Rattle.ot_core.proofs.ReplyLemmas.{reply_in-kept, reply_in-log}
use Rattle.ot_core.proofs.tenant.Tenant.reply_at.Goals as goal

pub returns-then-place-kept : goal.returns-then-place-kept
returns-then-place-kept c =
    let a = account_of c.self.inside in
    let kept = c.self.inside.kept in
    let many : length a.kept ≡ c.len-kept.result = omega (arith, length-map kept.items told_of, c.len-kept.ensures, kept.ok.0) in
    c.reply_at.ensures
    ∙ reply_in-log a c.args.place (c.args.place - c.len-kept.result) c.self.invariant.sound (omega (arith, many, c.if-place-kept.true))
    ∙ ap (λ b. reply_in b c.args.place) c.self.view_is

pub returns : goal.returns
returns c =
    let a = account_of c.self.inside in
    let kept = c.self.inside.kept in
    let place = c.args.place in
    let said = c.index.result.now in
    let within : place < length kept.items = omega (arith, c.if-place-kept.false, c.len-kept.ensures, kept.ok.0) in
    let at : slice_get a.kept place ≡ Some (told_of said) =
    slice_get-map told_of kept.items place ∙ ap (option_map told_of) (slice_get_read kept.items (length kept.items) place said refl within c.index.ensures) in
    reply_in-kept a place (told_of said) at (omega (arith, within, length-map kept.items told_of)) ∙ ap (λ b. reply_in b place) c.self.view_is
