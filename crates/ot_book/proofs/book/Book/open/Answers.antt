use Rattle.std.proofs.Common.{◌≡◌, ◌∙◌, sym, subst}
use Rattle.ot_book.specs.Books.{OpensLine}
use Rattle.ot_book.proofs.book.Book.open.Goals as goal
use Rattle.ot_book.proofs.book.Book.open.Goals.{in-ToRun, in_default-opened}

pub returns-clause-opened : goal.returns-clause-opened
returns-clause-opened c =
    let now : c.match-opened.self ≡ c.take.new.self = elim c.match-opened.branch [ in-ToRun w ↦ w.self-is ∙ w.keep.ensures | in_default-opened w ↦ w.self-is ] in
    subst (λ s. OpensLine s c.args.line.now c.match-opened.self c.in_ok-opened.opened) c.read_before.ensures.same
    (subst (λ s. OpensLine c.read_before.new.self c.args.line.now s c.in_ok-opened.opened) (sym now) c.in_ok-opened.ensures.opened)
