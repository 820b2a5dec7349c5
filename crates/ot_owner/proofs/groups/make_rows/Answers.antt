use Rattle.std.proofs.Common.{◌≡◌, ◌<◌, ◌∙◌, sym, subst, arith, length, refl, List}
use Rattle.std.specs.Prelude.{true, All}
use Rattle.ot_owner.specs.Keeping.{Made, HasRow, IsRegular}
use Rattle.ot_owner.specs.Kept.{summed_of, made_of}
use Rattle.ot_owner.specs.Owning.{Summed, folds_in}
use Rattle.ot_owner.specs.declared.rows.Group.{Group}
use Rattle.ot_owner.proofs.RowLemmas.{map-kept, seen-at, all-seen, before-more}
use Rattle.ot_owner.proofs.groups.make_rows.Goals as goal

pub loop-i-init : goal.loop-i-init
loop-i-init c = record {
  same = refl;
  made = λ j d below within. absurd (omega (arith, below));
  len = refl;
  capacity = refl;
}

pub index_mut-requires : goal.index_mut-requires
index_mut-requires c = omega (arith, c.loop-i-test.true, c.loop-i.invariant.len, c.len-i-end.ensures)

pub make_for-requires-clause-regular : goal.make_for-requires-clause-regular
make_for-requires-clause-regular c =
    let items = c.loop-i.groups.items in
    let x : Group = c.index_mut.result.now in
    let within : c.loop-i.i < length items = omega (arith, c.loop-i-test.true, c.loop-i.invariant.len, c.len-i-end.ensures, c.loop-i.groups.ok.0) in
    seen-at summed_of IsRegular items c.loop-i.i x (subst (λ (gs : List Summed). All IsRegular gs) (sym c.loop-i.invariant.same) c.requires.regular) within c.index_mut.ensures.value

pub loop-i-preserved : goal.loop-i-preserved
loop-i-preserved c =
    let items = c.loop-i.groups.items in
    let i = c.loop-i.i in
    let x : Group = c.index_mut.result.now in
    let y : Group = c.make_for.new.self in
    let within : i < length items = omega (arith, c.loop-i-test.true, c.loop-i.invariant.len, c.len-i-end.ensures, c.loop-i.groups.ok.0) in
    record {
      same = map-kept summed_of items i x y c.index_mut.ensures.value c.make_for.ensures.same ∙ c.loop-i.invariant.same;
      made = before-more (λ (g : Group). folds_in g.decl c.args.uses.now ≡ true → HasRow c.args.worker (made_of g)) items i y c.loop-i.invariant.made c.in_ok-make_for.ensures.made within;
      len = c.loop-i.invariant.len;
      capacity = c.loop-i.invariant.capacity;
    }

pub returns-in_err-make_for-clause-same : goal.returns-in_err-make_for-clause-same
returns-in_err-make_for-clause-same c =
    map-kept summed_of c.loop-i.groups.items c.loop-i.i c.index_mut.result.now c.make_for.new.self c.index_mut.ensures.value c.make_for.ensures.same ∙ c.loop-i.invariant.same

pub returns-clause-made : goal.returns-clause-made
returns-clause-made c =
    all-seen made_of (λ (m : Made). folds_in m.uses c.args.uses.now ≡ true → HasRow c.args.worker m) c.loop-i.groups.items
    (λ j d within. c.loop-i.invariant.made j d (omega (arith, within, c.loop-i-test.false, c.loop-i.invariant.len, c.len-i-end.ensures, c.loop-i.groups.ok.0)) within)
