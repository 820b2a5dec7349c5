use Rattle.std.proofs.Common.{take, subst}
use Rattle.std.specs.Prelude.{All}
use Rattle.std.proofs.lemmas.List.{take_all}
use Rattle.std.proofs.lemmas.List.Elements.{All-more, All-weaker}
use Rattle.ot_model.specs.declared.stmt.Mode.TheVariants.{Reads}
use Rattle.ot_race.specs.View.{events_in}
use Rattle.ot_race_all.specs.Found.{TouchTold}
use Rattle.ot_race_all.specs.declared.touched.Touch.{Touch}
use Rattle.ot_race_all.proofs.compare.compare_use.Goals as goal

abbrev some_touch : Touch
some_touch = record { mode = Reads; number = 0 }

pub loop-touch-preserved : goal.loop-touch-preserved
loop-touch-preserved c =
    let es = events_in c.args.events.now in
    let n = c.args.number in
    let k = c.loop-touch.touch-index in
    let old = c.loop-touch.found in
    let new = c.compare_touch.new.found in
    let step = c.in_ok-compare_touch.ensures in
    record {
      found = step.found;
      kept = λ p q t. step.kept p q (c.loop-touch.invariant.kept p q t);
      told = All-more (λ (t : Touch). TouchTold es n c.args.used new t.mode t.number) c.args.touches.now k some_touch c.loop-touch-test.true
          (All-weaker (λ (t : Touch). TouchTold es n c.args.used old t.mode t.number) (λ (t : Touch). TouchTold es n c.args.used new t.mode t.number)
          (λ t told against apart p q a b. step.kept p q (told against apart p q a b)) (take k c.args.touches.now) c.loop-touch.invariant.told) step.told;
    }

pub returns-clause-told : goal.returns-clause-told
returns-clause-told c =
    subst (All (λ (t : Touch). TouchTold (events_in c.args.events.now) c.args.number c.args.used c.loop-touch.found t.mode t.number))
    (take_all c.loop-touch.touch-index c.args.touches.now c.loop-touch-test.false) c.loop-touch.invariant.told
