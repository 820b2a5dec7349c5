use Rattle.std.proofs.Common.{sym, append_assoc, arith}
use Rattle.std.specs.Prelude.{codes}
use Rattle.ot_show_print.specs.Shown as shown
use Rattle.ot_show_print.proofs.printer.Printer.wait_for.Goals as goal

pub returns-clause-text : goal.returns-clause-text
returns-clause-text c = rw (sym (append_assoc c.args.self.now.text (codes "taskwait") (shown.wait_declares c.args.self.now.names c.args.decl.now))) (grind arith)
