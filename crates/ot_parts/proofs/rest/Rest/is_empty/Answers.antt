use Rattle.std.proofs.Common.{◌≡◌, ◌∙◌, true, true≢false, ap, refl, sym, subst}
use Rattle.std.specs.Prelude.{not, Some, None, MatchOption, option_map, []}
use Rattle.ot_parts.specs.Left.{comes, next_at, outer_parts}
use Rattle.ot_parts.specs.Parts.{part_of}
use Rattle.ot_parts.proofs.RestLemmas.{next-parts, none-left, not-end, some-left}
use Rattle.ot_parts.proofs.rest.Rest.is_empty.Goals as goal

pub returns-in-Some : goal.returns-in-Some
returns-in-Some c =
    let f = c.self.inside.frames in
    let passed = c.self.inside.passed in
    let p = c.in-Some.part.now in
    let next : next_at f.inner ≡ Some p = sym c.next.ensures ∙ ap (option_map (λ q. q.now)) c.in-Some.is in
    let some : comes passed (part_of p) ≡ true = subst (λ o. MatchOption o (outer_parts f.outer.items ≡ []) (λ q. comes passed (part_of q) ≡ true)) next c.self.invariant in (
      (λ h. absurd (true≢false (sym h ∙ ap not (c.comes.ensures.is ∙ some)))),
      λ e. absurd (not-end passed (part_of p) _ c.comes.ensures.part some (sym (some-left passed f p _ (next-parts f p next)) ∙ c.self.view_is ∙ e)),
    )

pub returns-in-None : goal.returns-in-None
returns-in-None c =
    let f = c.self.inside.frames in
    let next : next_at f.inner ≡ None = sym c.next.ensures ∙ ap (option_map (λ q. q.now)) c.in-None.is in
    ((λ h. sym c.self.view_is ∙ none-left c.self.inside.passed f c.self.invariant next), λ e. refl)
