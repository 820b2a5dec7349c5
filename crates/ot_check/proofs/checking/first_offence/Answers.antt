use Rattle.std.proofs.Common.{None, [], refl, sym, ◌∙◌}
use Rattle.ot_model.specs.View.{stmts_of}
use Rattle.ot_check.specs.Discipline.{nobody, nothing_open}
use Rattle.ot_check.proofs.RegionLemmas.{stands-first}
use Rattle.ot_check.proofs.TellingLemmas.{tells-first}
use Rattle.ot_check.proofs.checking.first_offence.Goals as goal

pub returns : goal.returns
returns c =
    tells-first (stmts_of c.args.program.now.body.items) _
    (c.in_ok-walked.ensures.told None nothing_open nobody []
    (stands-first None [] c.in_ok-standing.standing _ c.in_ok-standing.ensures.begun refl c.in_ok-standing.ensures.none))
