use Rattle.std.proofs.Common.{◌≡◌, ◌∙◌, ◌+◌, ℕ, sym, ap, arith}
use Rattle.std.specs.Prelude.{option_map}
use Rattle.ot_why_place.specs.Spots.{trail_bindings}
use Rattle.ot_why_place.specs.Texts.{text_by}
use Rattle.ot_why_fault.specs.Walk.{counts_with, told_by}
use Rattle.ot_why_fault.specs.Whys.{whys_past_limits, shape_of, why_by, short, after}
use Rattle.ot_why_fault.proofs.FirstLemmas.{entry_is, entry_met, entry_passed}
use Rattle.ot_why_fault.proofs.find.Finder.enter.Goals as goal

pub returns-in-Some : goal.returns-in-Some
returns-in-Some c nested level =
    let shape = (shape_of c.args.self.now.arrays.now c.args.self.now.tasks) in
    let variables = trail_bindings c.args.trail.now in
    let text = text_by c.args.self.now.profile c.args.text in
    let past = c.past_limits.ensures ∙ ap (λ (n : ℕ). after (told_by c.own_parts-own.new.first) (whys_past_limits n c.plus-counts.result)) c.from.ensures in
    let told = entry_is shape nested c.args.level variables text _ _ _ _ c.args.passed.counts _ _ level c.new-first.ensures
    c.own_parts-own.ensures.first c.own_parts-own.ensures.counts c.plus-counts.ensures past
    (λ none. c.in_ok-why.ensures nested none) in
    entry_met _ _ _ _ (sym (ap (option_map why_by) c.in-Some.is) ∙ told)

pub returns-in-None : goal.returns-in-None
returns-in-None c nested level =
    let shape = (shape_of c.args.self.now.arrays.now c.args.self.now.tasks) in
    let variables = trail_bindings c.args.trail.now in
    let text = text_by c.args.self.now.profile c.args.text in
    let past = c.past_limits.ensures ∙ ap (λ (n : ℕ). after (told_by c.own_parts-own.new.first) (whys_past_limits n c.plus-counts.result)) c.from.ensures in
    let told = entry_is shape nested c.args.level variables text _ _ _ _ c.args.passed.counts _ _ level c.new-first.ensures
    c.own_parts-own.ensures.first c.own_parts-own.ensures.counts c.plus-counts.ensures past
    (λ none. c.in_ok-why.ensures nested none) in
    let next : c.saturating_add.result ≡ short (c.args.passed.entries + 1) = omega (arith, c.saturating_add.ensures) in
    entry_passed _ _ _ _ _ _ (sym (ap (option_map why_by) c.in-None.is) ∙ told) next
    (c.plus-counts.ensures ∙ ap (counts_with c.args.passed.counts) c.own_parts-own.ensures.counts)
