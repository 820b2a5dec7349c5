use Rattle.std.proofs.Common.{◌≡◌, ◌||◌, ◌<◌, ◌≤◌, ℕ, Bool, true, false, not, cond, length, get_or, set, take, ap, ◌∙◌, refl, arith}
use mir.Val.{bool_byte}
use Rattle.std.proofs.lemmas.List.Elements.{All-weaker}
use Rattle.ot_model.specs.Cells.{updated}
use Rattle.ot_depend.specs.Kept.{due, enlist, ends_with, Admits}
use Rattle.ot_depend.specs.Children.{kid_of, kids_of, AdmitsAt}
use Rattle.ot_depend.proofs.LinkLemmas.{due-enlist}
use Rattle.ot_depend.proofs.ChildrenLemmas.{kids_of-set, kid_at, enlisted_more, length-enlisted_kids}
use Rattle.ot_depend.proofs.ListLemmas.{kept_at}
use Rattle.ot_depend.proofs.child.enlist.Goals as goal

byte_not : (b : Bool) → bool_byte (not b) ≡ cond b 0 1
byte_not true = refl
byte_not false = refl

few : (b : Bool) → cond b 0 1 ≤ 1
few true = omega arith
few false = omega arith

pub loop-place-preserved : goal.loop-place-preserved
loop-place-preserved c =
    let place : ℕ = get_or c.args.earlier.now c.loop-place.place-index 0 in
    let count = length-enlisted_kids c.args.later (take c.loop-place.place-index c.args.earlier.now) c.args.children.now.items c.loop-place.children.items c.loop-place.invariant.put in
    let known : place < length c.args.children.now.items = c.requires.known c.loop-place.place-index 0 c.loop-place-test.true in
    let is : kids_of (set c.loop-place.children.items place c.enlist.new.self) ≡ updated (kids_of c.loop-place.children.items) place (enlist c.args.later) =
    kids_of-set (enlist c.args.later) c.loop-place.children.items place c.index_mut.result.now c.enlist.new.self (omega arith) c.index_mut.ensures.value c.enlist.ensures.exact in
    let one = due-enlist c.args.later place (kids_of c.loop-place.children.items) (kid_of c.index_mut.result.now) (kid_at c.loop-place.children.items place c.index_mut.result.now (omega arith) c.index_mut.ensures.value) in
    let ends : Bool = c.index_mut.result.now.finished || ends_with c.args.later c.index_mut.result.now.waiters.items in
    let byte : c.from-waiting.result ≡ cond ends 0 1 = c.from-waiting.ensures ∙ ap bool_byte c.enlist.ensures.told ∙ byte_not ends in
    record {
      put = is ∙ ap (λ ks. updated ks place (enlist c.args.later)) c.loop-place.invariant.put ∙ enlisted_more c.args.later (kids_of c.args.children.now.items) c.args.earlier.now c.loop-place.place-index c.loop-place-test.true;
      room = All-weaker (AdmitsAt c.args.later c.loop-place.children.items) (AdmitsAt c.args.later (set c.loop-place.children.items place c.enlist.new.self))
          (λ p room. kept_at (λ x. x.finished ≡ false → Admits c.args.later x.waiters) c.loop-place.children.items place p c.enlist.new.self c.enlist.ensures.admits room) c.args.earlier.now c.loop-place.invariant.room;
      counted = omega (arith, byte, one, ap (due c.args.later) is, c.loop-place.invariant.counted);
      capacity = c.loop-place.invariant.capacity;
      few = omega (arith, byte, few ends, c.loop-place.invariant.few);
    }
