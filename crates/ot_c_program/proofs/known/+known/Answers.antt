use Rattle.std.proofs.Common.{◌∙◌, sym, ap, rules}
use Rattle.serde_json.specs.View.{view}
use Rattle.ot_why_place.specs.Spots.{trail_bindings}
use Rattle.ot_why_place.proofs.SizeLemmas.{view-Number, view-String}
use Rattle.ot_c_program.proofs.KnownLemmas.{known-number, known-string, none_known}
use Rattle.ot_c_program.proofs.known.+known.Goals as goal

pub known-returns-in-Number : goal.known-returns-in-Number
known-returns-in-Number t c =
    rw (ap view c.in-Number.is ∙ view-Number c.in-Number.number, known-number (trail_bindings c.args.numbers.now)) (search rules)

pub known-returns-in-String : goal.known-returns-in-String
known-returns-in-String t c =
    rw (ap view c.in-String.is ∙ view-String c.in-String.name, known-string (trail_bindings c.args.numbers.now)) (search rules)

pub known-returns-in_default : goal.known-returns-in_default
known-returns-in_default t c = sym (none_known (trail_bindings c.args.numbers.now) c.args.value.now c.in_default.not-Number c.in_default.not-String c.in_default.not-Array)
