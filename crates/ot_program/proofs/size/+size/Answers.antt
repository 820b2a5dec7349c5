use Rattle.std.proofs.Common.{sym, rules}
use Rattle.ot_program.specs.walk.Sizes.{bindings_of}
use Rattle.ot_program.proofs.SizeForms.{no_size_but_three}
use Rattle.ot_program.proofs.size.+size.Goals as goal

pub size_form-returns-then-items-ne3 : goal.size_form-returns-then-items-ne3
size_form-returns-then-items-ne3 t c = sym (no_size_but_three (bindings_of c.args.variables.now) c.args.items.now (search rules))
