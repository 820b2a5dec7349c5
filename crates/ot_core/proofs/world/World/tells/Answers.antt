use Rattle.std.proofs.Common.{ap, ◌∙◌}
use Rattle.std.specs.Prelude.{slice_get}
use Rattle.ot_core.specs.Scenes.{Scene}
use Rattle.ot_core.proofs.ToldLemmas.{told-first, told-whole}
use Rattle.ot_core.proofs.world.World.tells.Goals as goal

pub returns : goal.returns
returns c = λ t a at.
    let sound = (c.self.invariant.each t a (ap (λ (s : Scene). slice_get s.accounts t) c.self.view_is ∙ at)).sound in
    (told-first a sound, told-whole a sound)
