use Rattle.std.proofs.Common.{◌≡◌, ◌+◌, length, map, refl, sym, ap, ◌∙◌, subst, arith}
use Rattle.std.specs.Vec.Iter.{into_iter_items, into_iter_len}
use Rattle.std.proofs.Math.ListN.{length-map}
use Rattle.ot_store.specs.Arrays.{with_cells, named_of, AreCounted}
use Rattle.indexmap.specs.IndexMap.{set_value_at}
use Rattle.indexmap.proofs.CallerLemmas.{index_map_len-with_value_at}
use Rattle.ot_store.proofs.ArraysLemmas.{cells-fit}
use Rattle.ot_store.proofs.RefillLemmas.{refilled, refilled-recelled, set_value_at-named, none-left, AreCounted-recelled}
use Rattle.ot_store.proofs.store.Store.set_cells.Goals as goal

pub loop-place-init : goal.loop-place-init
loop-place-init c =
    let same = c.into_iter-place-iterator.ensures.into_iter_gives in
    let items : into_iter_items c.into_iter-place-iterator.result.iter ≡ c.into_arrays.result.items =
    ap (λ e. into_iter_items e.iter) same ∙ ap into_iter_items c.enumerate-place-items.ensures.source ∙ c.into_iter.ensures.rest in
    let start : c.into_iter-place-iterator.result.count ≡ 0 = ap (λ e. e.count) same ∙ c.enumerate-place-items.ensures.count in
    let len : into_iter_len c.into_iter-place-iterator.result.iter ≡ c.into_arrays.result.len =
    ap (λ e. into_iter_len e.iter) same ∙ ap into_iter_len c.enumerate-place-items.ensures.source ∙ c.into_iter.ensures.len in
    let fit = cells-fit c.args.self.now c.args.cells c.requires in
    let lists : length c.args.cells ≡ length c.into_arrays.result.items = sym (ap length c.into_arrays.ensures) ∙ length-map c.into_arrays.result.items _ in
    let arrays : length c.args.self.now ≡ length c.self.inside.arrays.entries = sym (ap length c.self.view_is) ∙ length-map c.self.inside.arrays.entries _ in
    record {
      left =
          (λ j. refilled (c.self.view_is j) (start j) (map (λ v. v.items) (items j)))
          ∙ ap (refilled c.args.self.now 0) c.into_arrays.ensures
          ∙ refilled-recelled c.args.self.now c.args.cells c.requires;
      long = omega (arith, start, ap length items, fit, lists, arrays);
      size = omega (arith, len, ap length items, c.into_arrays.result.ok.0);
      count = refl;
    }

pub index_mut-requires : goal.index_mut-requires
index_mut-requires c =
    let step = c.in-Some.ensures.steps in
    omega (arith, c.loop-place.invariant.long, ap length step.0.0, step.1)

pub loop-place-preserved : goal.loop-place-preserved
loop-place-preserved c =
    let step = c.in-Some.ensures.steps in
    let entries = c.loop-place.self-inside.arrays.entries in
    let rest = map (λ v. v.items) (into_iter_items c.next.new.self.iter) in
    record {
      left =
          (λ j. refilled (set_value_at-named entries c.in-Some.place c.in-Some.list j) (step.2 j) rest)
          ∙ ap (λ k. refilled (set_value_at (named_of entries) k c.in-Some.list.items) (c.loop-place.place-iterator.count + 1) rest) step.1
          ∙ ap (λ vs. refilled (named_of entries) c.loop-place.place-iterator.count (map (λ v. v.items) vs)) (sym step.0.0)
          ∙ c.loop-place.invariant.left;
      long = omega (arith, c.loop-place.invariant.long, ap length step.0.0, step.2, index_map_len-with_value_at c.loop-place.self-inside.arrays c.in-Some.place c.in-Some.list);
      size = omega (arith, c.loop-place.invariant.size, ap length step.0.0, step.0.1);
      count = c.loop-place.invariant.count;
    }

pub invariant_of-self : goal.invariant_of-self
invariant_of-self c =
    let inside = c.loop-place.self-inside in
    let none = none-left (into_iter_items c.loop-place.place-iterator.iter) (omega (arith, c.loop-place.invariant.size, c.in-None.ensures.steps.0.0)) in
    let is : named_of inside.arrays.entries ≡ with_cells c.args.self.now c.args.cells =
    ap (λ vs. refilled (named_of inside.arrays.entries) c.loop-place.place-iterator.count (map (λ v. v.items) vs)) (sym none)
    ∙ c.loop-place.invariant.left in
    let before : AreCounted c.args.self.now inside.count =
    subst (AreCounted c.args.self.now) (sym c.loop-place.invariant.count)
    (subst (λ arrays. AreCounted arrays c.self.inside.count) c.self.view_is c.self.invariant) in
    subst (λ arrays. AreCounted arrays inside.count) (sym is) (AreCounted-recelled c.args.self.now c.args.cells inside.count c.requires before)

pub returns : goal.returns
returns c =
    let inside = c.loop-place.self-inside in
    let none = none-left (into_iter_items c.loop-place.place-iterator.iter) (omega (arith, c.loop-place.invariant.size, c.in-None.ensures.steps.0.0)) in
    ap (λ vs. refilled (named_of inside.arrays.entries) c.loop-place.place-iterator.count (map (λ v. v.items) vs)) (sym none)
    ∙ c.loop-place.invariant.left
