use Rattle.ot_model.specs.View.{stmts_of}
use Rattle.ot_c_printed.proofs.RegionLemmas.{no_region}
use Rattle.ot_c_printed.proofs.apart.compare_region.Goals as goal

pub returns-then-back-ne1 : goal.returns-then-back-ne1
returns-then-back-ne1 c = no_region c.args.back.now (stmts_of c.args.body.now) c.if-back-ne1.true
