use Rattle.std.proofs.Common.{◌≡◌, take}
use Rattle.ot_exec_code.specs.Sites.{last_site}
use Rattle.ot_exec_code.proofs.form.Code.site.Given as goal

abbrev pub invariant-loop-form : goal.invariant-loop-form
invariant-loop-form l = l.found ≡ last_site (take l.form-index l.form-items)
