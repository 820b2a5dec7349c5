use Rattle.std.proofs.Common.{◌∙◌, sym, ap, rules}
use Rattle.serde_json.specs.View.{view}
use Rattle.ot_why_place.specs.Spots.{trail_bindings}
use Rattle.ot_why_place.proofs.SizeLemmas.{size-number, size-string, no_size, view-Number, view-String}
use Rattle.ot_why_place.proofs.size.+size.Goals as goal

pub size_of-returns-in-Number : goal.size_of-returns-in-Number
size_of-returns-in-Number t c =
    rw (ap view c.in-Number.is ∙ view-Number c.in-Number.number, size-number (trail_bindings c.args.trail.now)) (search rules)

pub size_of-returns-in-String : goal.size_of-returns-in-String
size_of-returns-in-String t c =
    rw (ap view c.in-String.is ∙ view-String c.in-String.name, size-string (trail_bindings c.args.trail.now)) (search rules)

pub size_of-returns-in_default : goal.size_of-returns-in_default
size_of-returns-in_default t c = sym (no_size (trail_bindings c.args.trail.now) c.args.value.now c.in_default.not-Number c.in_default.not-String c.in_default.not-Array)
