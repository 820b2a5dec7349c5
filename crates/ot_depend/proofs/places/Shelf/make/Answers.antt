use Rattle.std.proofs.Common.{◌≡◌, ◌/◌, ◌%◌, ℕ, Vec, Global, Option, refl, sym, ap, subst, ◌∙◌, IsSome, arith}
use Rattle.std.specs.Prelude.{unwrap_or, slice_get}
use Rattle.ot_depend.proofs.PageLemmas.{at_set, at_changed, there_is, filled}
use Rattle.ot_depend.proofs.places.Shelf.make.Goals as goal

abbrev look : Vec ℕ Global → ℕ → Option ℕ
look page j = slice_get page.items j

pub returns-in_ok-resize-clause-same : goal.returns-in_ok-resize-clause-same
returns-in_ok-resize-clause-same c = λ other.
    let old = c.index_mut-page.result.now in
    at_changed look c.reach.new.self.pages.items (c.args.index / 32) old c.resize.new.self c.in_ok-reach.ensures.reached c.index_mut-page.ensures.value
    (λ before after. unwrap_or after 0 ≡ unwrap_or before 0) (λ o. refl)
    (filled 0 old.items c.resize.new.self.items 32 _ (omega (arith, old.ok.0, c.len.ensures, c.if-len-lt32.true)) c.in_ok-resize.ensures.items) (other / 32) (other % 32)
    ∙ ap (λ o. unwrap_or o 0) (c.reach.ensures.same other)

pub returns-in_ok-resize-clause-made : goal.returns-in_ok-resize-clause-made
returns-in_ok-resize-clause-made c =
    subst IsSome (sym (at_set look c.reach.new.self.pages.items (c.args.index / 32) c.resize.new.self c.in_ok-reach.ensures.reached (c.args.index % 32)))
    (there_is c.resize.new.self.items (c.args.index % 32) (omega (arith, c.resize.new.self.ok.0, c.in_ok-resize.ensures.len)))

pub returns-else-len-lt32-clause-made : goal.returns-else-len-lt32-clause-made
returns-else-len-lt32-clause-made c =
    let page = c.index_mut-page.result.now in
    subst IsSome (sym (at_set look c.reach.new.self.pages.items (c.args.index / 32) page c.in_ok-reach.ensures.reached (c.args.index % 32)))
    (there_is page.items (c.args.index % 32) (omega (arith, page.ok.0, c.len.ensures, c.if-len-lt32.false)))
