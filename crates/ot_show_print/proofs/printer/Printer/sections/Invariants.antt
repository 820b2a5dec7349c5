use Rattle.std.proofs.Common.{◌≡◌, ◌++◌, drop}
use Rattle.ot_show_print.specs.Shown.{further, sections}
use Rattle.ot_show_print.proofs.printer.Printer.sections.Given as goal

-- those that are left follow
abbrev pub invariant-loop-section : goal.invariant-loop-section
invariant-loop-section l =
    (l.self.names ≡ l.fn.self.names)
    × (l.self.text ++ further l.fn.self.names (drop l.section-index l.section-items) ≡ l.fn.self.text ++ sections l.fn.self.names l.sections)
