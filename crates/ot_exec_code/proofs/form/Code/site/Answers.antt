use Rattle.std.proofs.Common.{◌+◌, take}
use Rattle.ot_exec_code.proofs.SiteLemmas.{site_more}
use Rattle.ot_exec_code.proofs.form.Code.site.Goals as goal

pub loop-form-preserved : goal.loop-form-preserved
loop-form-preserved c =
    site_more (take (c.args.at + 1) c.deref.result.now) c.loop-form.form-index c.form-item.result c.loop-form.found c.site.result c.later_of-found.result
    c.loop-form-test.true c.form-item.is c.loop-form.invariant c.site.ensures c.later_of-found.ensures
