use Rattle.std.proofs.Common.{◌≡◌, ◌∙◌, ap, sym, subst, List, ℕ}
use Rattle.ot_job.proofs.Common.{expanded_of, Live, state_in, Ended, Expanded, serial_run, live_of}
use Rattle.ot_job.proofs.StartLemmas.{state-ended, ended-meaning}
use Rattle.ot_job.proofs.job.Job.into_outcome.Goals as goal

pub returns : goal.returns
returns c = λ spec of.
    let j : Live = live_of c.self.inside in
    let is : state_in j ≡ Ended = subst (λ (l : Live). state_in l ≡ Ended) (sym c.self.view_is) c.requires in
    let ended = state-ended j is in
    ended-meaning j c.self.invariant ended.0 ended.1
    ∙ ap (λ (l : Live). serial_run l.program.body l.before) c.self.view_is
    ∙ ap (λ (p : Expanded). serial_run p.body c.args.self.before) (sym of.program)
    ∙ ap (λ (b : List (List ℕ)). serial_run (expanded_of spec.checked.program).body b) (sym of.before)
