use Rattle.std.proofs.Common.{◌++◌, ◌∷◌, [], List, map, take, get_or, sym, ap, ◌∙◌}
use Rattle.std.proofs.lemmas.List.{map_push, take_more}
use Rattle.std.proofs.lemmas.List.Elements.{All-push, All-same}
use Rattle.ot_depend.specs.Cells.{IsPlaced, HasRoomIn}
use Rattle.ot_depend.specs.declared.cells.Spot.{Spot}
use Rattle.ot_depend.proofs.cells.Table.spots.Goals as goal

pub loop-one-preserved : goal.loop-one-preserved
loop-one-preserved c =
    let before : List Spot = c.loop-one.spots.items in
    let kept = c.in_ok-spot.ensures.kept in
    record {
      sound = c.spot.ensures.sound;
      same = λ cell. c.spot.ensures.same cell ∙ c.loop-one.invariant.same cell;
      uses = ap (map (λ (s : Spot). s.one)) c.in_ok-push.ensures.items ∙ map_push (λ (s : Spot). s.one) before c.in_ok-spot.spot
          ∙ ap (λ xs. xs ++ c.in_ok-spot.spot.one ∷ []) c.loop-one.invariant.uses ∙ ap (λ x. take c.loop-one.one-index c.args.uses.now ++ x ∷ []) c.in_ok-spot.ensures.itself
          ∙ sym (take_more c.args.uses.now c.loop-one.one-index _ c.loop-one-test.true);
      placed = All-same (IsPlaced c.spot.new.self) c.push.new.self.items (before ++ c.in_ok-spot.spot ∷ []) c.in_ok-push.ensures.items
          (All-push (IsPlaced c.spot.new.self) before c.in_ok-spot.spot (λ k d within. (kept (get_or before k d) (c.loop-one.invariant.placed k d within)).0) c.in_ok-spot.ensures.placed);
      made = All-same (HasRoomIn c.spot.new.self) c.push.new.self.items (before ++ c.in_ok-spot.spot ∷ []) c.in_ok-push.ensures.items
          (All-push (HasRoomIn c.spot.new.self) before c.in_ok-spot.spot (λ k d within. (kept (get_or before k d) (c.loop-one.invariant.placed k d within)).1 (c.loop-one.invariant.made k d within)) c.in_ok-spot.ensures.made);
    }
