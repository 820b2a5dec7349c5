use Rattle.std.proofs.Common.{sym, subst, ◌∙◌}
use Rattle.ot_show_last.specs.LastRuns.{Finds}
use Rattle.ot_show_last.proofs.GoingLemmas.{finds, told_failed, told_worked}
use Rattle.ot_show_last.proofs.reading.last_run_in.Goals as goal

pub returns-clause-finds : goal.returns-clause-finds
returns-clause-finds g c =
    subst (Finds (g.R.Source.flow c.args.source.now).ahead (g.R.Source.flow c.hear_all-read.new.source).ahead) (sym c.told.ensures)
    (finds _ _ c.hear_all-read.result c.hear_all-read.new.last c.hear_all-read.ensures.hears)

pub returns-clause-read_failed : goal.returns-clause-read_failed
returns-clause-read_failed g c = λ is.
    c.hear_all-read.ensures.read_failed (told_failed c.hear_all-read.result c.hear_all-read.new.last (sym c.told.ensures ∙ is))

pub returns-clause-read_worked : goal.returns-clause-read_worked
returns-clause-read_worked g c = λ other.
    c.hear_all-read.ensures.read_worked (told_worked c.hear_all-read.result c.hear_all-read.new.last (λ is. other (c.told.ensures ∙ is)))
