use Rattle.ot_depend.specs.Children.{kids_of}
use Rattle.ot_depend.proofs.WaitsLemmas.{counted}
use Rattle.ot_depend.proofs.kept.Kept.waits_for.Goals as goal

pub returns : goal.returns
returns c =
    let k = c.args.self.now in
    counted (kids_of k.children.items) c.requires.ready k.cells c.requires.rows c.args.uses.now c.count_free.result c.count_free.ensures.free c.count_free.ensures.whole
