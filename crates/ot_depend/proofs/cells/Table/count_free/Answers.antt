use Rattle.std.proofs.Common.{◌≡◌, ◌||◌, ◌∙◌, ◌<◌, ℕ, zero, suc, Bool, true, false, List, [], ◌∷◌, get_or, take, refl, ap, sym, inl, inr, length, arith}
use Rattle.std.specs.Prelude.{Some, slice_get}
use Rattle.std.specs.List.{list_any}
use Rattle.std.proofs.lemmas.Bool.{or_right, cases_eq}
use Rattle.std.proofs.lemmas.List.Folds.{list_any_at, list_any_more}
use Rattle.ot_model.specs.declared.stmt.Mode.TheVariants.{Reads}
use Rattle.ot_model.specs.declared.stmt.Use.{Use}
use Rattle.ot_depend.specs.Children.{kids_of}
use Rattle.ot_depend.specs.Cells.{must_wait, entry_of}
use Rattle.ot_depend.proofs.cells.Table.count_free.Goals as goal

-- what stands past the end of a list
none : Use
none = record { cell = record { array = 0; index = 0 }; mode = Reads }

neither : (a b : Bool) → a ≡ false → b ≡ false → (a || b) ≡ false
neither a b one two = rw one two

or_false : (b : Bool) → (b || false) ≡ b
or_false true = refl
or_false false = refl

read : (uses : List Use) (i : ℕ) (u past : Use) → slice_get uses i ≡ Some u → u ≡ get_or uses i past
read [] i u past there = absurd (cc)
read (x ∷ uses) zero u past there = cc
read (x ∷ uses) (suc i) u past there = read uses i u past there

pub returns-then-must_wait : goal.returns-then-must_wait
unfolding none
returns-then-must_wait c =
    let waits = λ (u : Use). must_wait (kids_of c.args.children.now) u.mode (entry_of c.args.self.now u.cell) in
    let here = sym c.must_wait.ensures ∙ c.if-must_wait.true in
    record {
      from = c.loop-place.invariant.from;
      bounded = c.loop-place.invariant.bounded;
      free = c.loop-place.invariant.free;
      held = λ within. list_any_more waits c.args.uses.now c.loop-place.place none within ∙ or_right _ _ here;
      passed = c.loop-place.invariant.passed;
      stopped = λ u there. or_false (waits u) ∙ ap waits (read c.args.uses.now c.loop-place.place u none there) ∙ here;
      whole = λ within. list_any_at waits c.args.uses.now c.loop-place.place none within here;
    }

pub loop-place-preserved : goal.loop-place-preserved
unfolding none
loop-place-preserved c =
    let waits = λ (u : Use). must_wait (kids_of c.args.children.now) u.mode (entry_of c.args.self.now u.cell) in
    let within : c.loop-place.place < length c.args.uses.now = c.loop-place-test.true in
    record {
      from = omega (arith, c.loop-place.invariant.from);
      bounded = λ begun. omega (arith, within);
      free = λ before. list_any_more waits c.args.uses.now c.loop-place.place none within
          ∙ neither (list_any waits (take c.loop-place.place c.args.uses.now)) (waits (get_or c.args.uses.now c.loop-place.place none))
          (c.loop-place.invariant.free before) (sym c.must_wait.ensures ∙ c.if-must_wait.false);
      passed = λ i u from here there.
          elim (cases_eq i c.loop-place.place) [
            | inl e ↦
                or_false (waits u) ∙ ap waits (read c.args.uses.now i u none there ∙ ap (λ n. get_or c.args.uses.now n none) e)
                ∙ sym c.must_wait.ensures ∙ c.if-must_wait.false
            | inr apart ↦ c.loop-place.invariant.passed i u from (omega (arith, here, apart)) there
          ];
    }
