use Rattle.std.proofs.Common.{◌≡◌, drop}
use Rattle.std.specs.List.{list_any}
use Rattle.ot_model.specs.View.{stmt_of}
use Rattle.ot_why_blame.specs.Races.{uses_of}
use Rattle.ot_why_blame.proofs.TouchLemmas.{is_met}
use Rattle.ot_why_blame.proofs.race.conflict.Given as goal

-- nothing was met so far
abbrev pub invariant-loop-used : goal.invariant-loop-used
invariant-loop-used l =
    list_any (is_met (uses_of (stmt_of l.stmt))) l.decl ≡ list_any (is_met (uses_of (stmt_of l.stmt))) (drop l.used-index l.used-items)
