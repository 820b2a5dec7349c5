use Rattle.std.proofs.Common.{◌≡◌, ◌<◌, ℕ, List, length, get_or, set, take, All, false, subst, ◌∙◌, arith}
use Rattle.std.proofs.lemmas.List.{take_all}
use Rattle.std.proofs.lemmas.List.Elements.{All-more, All-weaker}
use Rattle.ot_depend.specs.Kept.{HasRoom}
use Rattle.ot_depend.specs.Children.{HasRoomAt}
use Rattle.ot_depend.specs.declared.child.Child.{Child}
use Rattle.ot_depend.proofs.ChildrenLemmas.{kids_of-set-same, same_count}
use Rattle.ot_depend.proofs.ListLemmas.{kept_at, here_at}
use Rattle.ot_depend.proofs.child.make_rooms.Goals as goal

pub returns-in_err-make_room-clause-same : goal.returns-in_err-make_room-clause-same
returns-in_err-make_room-clause-same c =
    let place : ℕ = get_or c.args.earlier.now c.loop-place.place-index 0 in
    let count = same_count c.loop-place.children.items c.args.children.now.items c.loop-place.invariant.same in
    let known : place < length c.args.children.now.items = c.requires c.loop-place.place-index 0 c.loop-place-test.true in
    kids_of-set-same c.loop-place.children.items place c.index_mut.result.now _ (omega arith) c.index_mut.ensures.value c.make_room.ensures.same
    ∙ c.loop-place.invariant.same

pub loop-place-preserved : goal.loop-place-preserved
loop-place-preserved c =
    let place : ℕ = get_or c.args.earlier.now c.loop-place.place-index 0 in
    let count = same_count c.loop-place.children.items c.args.children.now.items c.loop-place.invariant.same in
    let known : place < length c.args.children.now.items = c.requires c.loop-place.place-index 0 c.loop-place-test.true in
    let roomy : Child = c.make_room.new.self in
    let after : List Child = set c.loop-place.children.items place roomy in
    record {
      same = kids_of-set-same c.loop-place.children.items place c.index_mut.result.now roomy (omega arith) c.index_mut.ensures.value c.make_room.ensures.same
          ∙ c.loop-place.invariant.same;
      made = All-more (HasRoomAt after) c.args.earlier.now c.loop-place.place-index 0 c.loop-place-test.true
          (All-weaker (HasRoomAt c.loop-place.children.items) (HasRoomAt after)
          (λ p room. kept_at (λ x. x.finished ≡ false → HasRoom x.waiters) c.loop-place.children.items place p roomy c.in_ok-make_room.ensures.made room) (take c.loop-place.place-index c.args.earlier.now) c.loop-place.invariant.made)
          (here_at (λ x. x.finished ≡ false → HasRoom x.waiters) c.loop-place.children.items place roomy c.in_ok-make_room.ensures.made);
    }

pub returns-clause-made : goal.returns-clause-made
returns-clause-made c =
    subst (λ (ps : List ℕ). All (HasRoomAt c.loop-place.children.items) ps) (take_all c.loop-place.place-index c.args.earlier.now c.loop-place-test.false) c.loop-place.invariant.made
