use Rattle.std.proofs.Common.{◌≡◌, ◌<◌, ◌∙◌, sym, ap, subst, arith, length, List}
use Rattle.std.specs.Prelude.{true, All, if◌then◌else◌}
use Rattle.std.proofs.lemmas.List.{length-map}
use Rattle.ot_model.specs.Cells.{updated}
use Rattle.ot_owner.specs.Keeping.{Made, HasRow}
use Rattle.ot_owner.specs.Kept.{summed_of, summeds_of, made_of}
use Rattle.ot_owner.specs.Owning.{Summed, folds_in, begun_in}
use Rattle.ot_owner.specs.declared.rows.Group.{Group}
use Rattle.ot_owner.proofs.RowLemmas.{map-changed, map-kept, seen-at, front-more, front-all}
use Rattle.ot_owner.proofs.groups.begin_rows.Goals as goal

pub index_mut-requires : goal.index_mut-requires
index_mut-requires c = omega (arith, c.loop-i-test.true, c.loop-i.invariant.len, c.len-i-end.ensures)

pub begin_for-requires : goal.begin_for-requires
begin_for-requires c =
    let items = c.loop-i.groups.items in
    let x : Group = c.index_mut.result.now in
    let within : c.loop-i.i < length items = omega (arith, c.loop-i-test.true, c.loop-i.invariant.len, c.len-i-end.ensures, c.loop-i.groups.ok.0) in
    seen-at made_of (λ (m : Made). folds_in m.uses c.args.uses.now ≡ true → HasRow c.args.worker m) items c.loop-i.i x
    (subst (λ (ms : List Made). All (λ m. folds_in m.uses c.args.uses.now ≡ true → HasRow c.args.worker m) ms) (sym c.loop-i.invariant.made) c.requires) within c.index_mut.ensures.value

pub loop-i-preserved : goal.loop-i-preserved
loop-i-preserved c =
    let items = c.loop-i.groups.items in
    let i = c.loop-i.i in
    let x : Group = c.index_mut.result.now in
    let y : Group = c.begin_for.new.self in
    let f = λ (g : Summed). if folds_in g.uses c.args.uses.now then begun_in c.args.worker g else g in
    record {
      begun = map-changed summed_of items i x y f c.index_mut.ensures.value c.begin_for.ensures.begun
          ∙ ap (λ gs. updated gs i f) c.loop-i.invariant.begun ∙ front-more f i (summeds_of c.args.groups.now.items);
      made = map-kept made_of items i x y c.index_mut.ensures.value c.begin_for.ensures.made ∙ c.loop-i.invariant.made;
      len = c.loop-i.invariant.len;
      capacity = c.loop-i.invariant.capacity;
    }

pub returns-clause-begun : goal.returns-clause-begun
returns-clause-begun c =
    let gs = summeds_of c.args.groups.now.items in
    c.loop-i.invariant.begun
    ∙ front-all (λ (g : Summed). if folds_in g.uses c.args.uses.now then begun_in c.args.worker g else g) c.loop-i.i gs
    (omega (arith, c.loop-i-test.false, c.len-i-end.ensures, c.args.groups.now.ok.0, length-map c.args.groups.now.items summed_of))
