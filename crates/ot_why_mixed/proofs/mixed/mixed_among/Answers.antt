use Rattle.std.proofs.Common.{rules, ◌∙◌, List, None, map, sym, ap}
use Rattle.std.specs.Prelude.{option_map}
use Rattle.std.proofs.lemmas.List.Sorted.{IsNonDecreasingBy-from_sort_by_key}
use Rattle.serde_json.specs.View.{items_view}
use Rattle.ot_program.specs.Meanings.{each, clause}
use Rattle.ot_why_place.specs.Spots.{trail_bindings}
use Rattle.ot_why_mixed.specs.Rows.{row_by, sweep}
use Rattle.ot_why_mixed.specs.declared.clause.Named.{Named}
use Rattle.ot_why_mixed.proofs.CellLemmas.{told_of}
use Rattle.ot_why_mixed.proofs.RowLemmas.{told_among}
use Rattle.ot_why_mixed.proofs.mixed.mixed_among.Goals as goal

pub returns-in-Some : goal.returns-in-Some
returns-in-Some c shape profile arrays none =
    let found = told_among shape (clause shape profile (trail_bindings c.args.trail.now)) (each (items_view c.args.items.now)) c.in_ok-named.named.items
    c.sort_unstable_by_key.new.self.items (option_map row_by c.first_mixed.result)
    (c.in_ok-named.ensures.fits shape profile arrays none) (c.in_ok-named.ensures.rows shape profile arrays none)
    c.sort_unstable_by_key.ensures.permutation
    (IsNonDecreasingBy-from_sort_by_key (λ (n : Named). n.from) _ c.sort_unstable_by_key.ensures.sorted (λ a r q k. search rules))
    (c.first_mixed.ensures ∙ ap (λ (ns : List Named). sweep 0 None (map row_by ns)) c.as_slice.ensures.value) in
    sym (ap (λ o. option_map told_of (option_map row_by o)) c.in-Some.is) ∙ found

pub returns : goal.returns
returns c shape profile arrays none =
    let found = told_among shape (clause shape profile (trail_bindings c.args.trail.now)) (each (items_view c.args.items.now)) c.in_ok-named.named.items
    c.sort_unstable_by_key.new.self.items (option_map row_by c.first_mixed.result)
    (c.in_ok-named.ensures.fits shape profile arrays none) (c.in_ok-named.ensures.rows shape profile arrays none)
    c.sort_unstable_by_key.ensures.permutation
    (IsNonDecreasingBy-from_sort_by_key (λ (n : Named). n.from) _ c.sort_unstable_by_key.ensures.sorted (λ a r q k. search rules))
    (c.first_mixed.ensures ∙ ap (λ (ns : List Named). sweep 0 None (map row_by ns)) c.as_slice.ensures.value) in
    sym (ap (λ o. option_map told_of (option_map row_by o)) c.in-None.is) ∙ found
