use Rattle.std.proofs.Common.{◌∙◌, take}
use Rattle.std.proofs.lemmas.List.Elements.{All-more, All-weaker}
use Rattle.ot_depend.specs.Groups.{IsCounted}
use Rattle.ot_depend.proofs.groups.Groups.make_room.Goals as goal

pub loop-group-preserved : goal.loop-group-preserved
loop-group-preserved c = record {
  same = λ g. c.make_one.ensures.same g ∙ c.loop-group.invariant.same g;
  made = All-more (IsCounted c.make_one.new.self) c.args.groups.now c.loop-group.group-index 0 c.loop-group-test.true
      (All-weaker (IsCounted c.loop-group.self) (IsCounted c.make_one.new.self) c.make_one.ensures.kept (take c.loop-group.group-index c.args.groups.now) c.loop-group.invariant.made)
      c.in_ok-make_one.ensures.made;
}
