use Rattle.std.proofs.Common.{take, refl, ◌∙◌}
use Rattle.ot_file_text.proofs.PositionLemmas.{behind_between}
use Rattle.ot_file_text.proofs.position.spot_behind.Goals as goal

pub returns : goal.returns
returns c = (
  refl,
  c.behind.ensures.behind (take c.args.from.offset c.args.text.now) c.requires.from.1
      ∙ behind_between c.args.text.now c.args.from.offset c.args.offset c.requires.before,
)
