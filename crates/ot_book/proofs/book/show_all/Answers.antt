use Rattle.std.specs.Prelude.{slice_range, unwrap_or}
use Rattle.std.proofs.Common.{◌≡◌, ◌+◌, ◌<◌, [], length, get_or, sym, ap, ◌∙◌, subst, arith, vec_len}
use Rattle.std.proofs.Math.Seq.{map-set_same}
use Rattle.ot_model.specs.Cells.{lengths}
use Rattle.ot_model.specs.Names.{FitsShape}
use Rattle.ot_book.proofs.ShownLemmas.{shown_one, list-at, shown-more, section-fits, list-long, as-many}
use Rattle.ot_book.proofs.book.show_all.Goals as goal

pub show-requires : goal.show-requires
show-requires c =
    let cells = c.args.cells.now in
    let sections = c.args.sections.now in
    let s = c.index-section.result.now in
    let a = c.index-arrays-section.result in
    let l = c.index_mut-list.result.now in
    let i = c.loop-i.i in
    let inside : i < length sections.items = omega (arith, c.len-i-end.ensures, c.loop-i-test.true, sections.ok.0) in
    let row : a.items ≡ get_or cells s.array a.items =
    list-at _ c.arrays.result.now s.array a c.index-arrays-section.is ∙ ap (λ rows. get_or rows s.array a.items) c.arrays.ensures in
    let fits : FitsShape (lengths cells) s = subst (FitsShape (lengths cells)) (sym c.index-section.ensures) (c.requires.there i s inside) in
    let below : i < length c.loop-i.lists.items = omega (arith, as-many _ c.loop-i.lists.items sections.items c.loop-i.invariant.1) in
    let long = list-long _ c.loop-i.lists.items sections.items i l s c.loop-i.invariant.1 below c.index_mut-list.ensures.value c.index-section.ensures in
    omega (arith, (section-fits cells s a.items fits row).1, long, a.ok.0, l.ok.0)

pub loop-i-preserved : goal.loop-i-preserved
loop-i-preserved c =
    let cells = c.args.cells.now in
    let sections = c.args.sections.now in
    let s = c.index-section.result.now in
    let a = c.index-arrays-section.result in
    let l = c.index_mut-list.result.now in
    let i = c.loop-i.i in
    let lists = c.loop-i.lists.items in
    let new = c.show.new.list in
    let inside : i < length sections.items = omega (arith, c.len-i-end.ensures, c.loop-i-test.true, sections.ok.0) in
    let row : a.items ≡ get_or cells s.array a.items =
    list-at _ c.arrays.result.now s.array a c.index-arrays-section.is ∙ ap (λ rows. get_or rows s.array a.items) c.arrays.ensures in
    let fits : FitsShape (lengths cells) s = subst (FitsShape (lengths cells)) (sym c.index-section.ensures) (c.requires.there i s inside) in
    let below : i < length lists = omega (arith, as-many _ lists sections.items c.loop-i.invariant.1) in
    let long : length l.items ≡ s.len = list-long _ lists sections.items i l s c.loop-i.invariant.1 below c.index_mut-list.ensures.value c.index-section.ensures in
    let count : vec_len l ≡ s.len = omega (arith, long, l.ok.0) in
    let written : new.items ≡ shown_one cells s =
    c.show.ensures.shown
    ∙ ap (λ n. slice_range a.items s.start (s.start + n)) count
    ∙ ap (λ o. slice_range (unwrap_or o []) s.start (s.start + s.len)) (sym (section-fits cells s a.items fits row).0) in
    let kept : length new.items ≡ length l.items = omega (arith, c.show.ensures.len, new.ok.0, l.ok.0) in
    let same : length new.items ≡ length (get_or lists i l).items = kept ∙ ap (λ r. length r.items) c.index_mut-list.ensures.value in (
      shown-more _ lists i new sections.items cells s below inside c.index-section.ensures written c.loop-i.invariant.0,
      map-set_same _ lists i new l same ∙ c.loop-i.invariant.1,
    )
