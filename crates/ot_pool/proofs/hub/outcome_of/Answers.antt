use Rattle.std.proofs.Common.{sym, ◌∙◌, subst}
use Rattle.ot_job.specs.Dealings.{IsOver, NoneOut}
use Rattle.ot_pool.proofs.TurnLemmas.{collects-ended, collects-failed}
use Rattle.ot_pool.proofs.hub.outcome_of.Goals as goal

pub returns-in-Ended-clause-collected : goal.returns-in-Ended-clause-collected
returns-in-Ended-clause-collected c = λ old new k leaves of.
    collects-ended old new k c.args.job c.args.spec.now c.into_outcome.result leaves of (sym c.state.ensures.is ∙ c.in-Ended.is)
    (subst (λ s. IsOver s → NoneOut c.args.job) c.in-Ended.is c.state.ensures.calm tt) (c.into_outcome.ensures c.args.spec.now of)

pub returns-in-Failed-clause-collected : goal.returns-in-Failed-clause-collected
returns-in-Failed-clause-collected c = λ old new k leaves of.
    collects-failed old new k c.args.job c.args.spec.now leaves of (sym c.state.ensures.is ∙ c.in-Failed.is)
    (subst (λ s. IsOver s → NoneOut c.args.job) c.in-Failed.is c.state.ensures.calm tt)
