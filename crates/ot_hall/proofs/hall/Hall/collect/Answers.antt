use Rattle.std.proofs.Common.{◌≡◌, ◌⊎◌, refl, sym, ◌∙◌, subst}
use Rattle.ot_job.specs.declared.state.State.TheVariants.{Working, Failing}
use Rattle.std.proofs.lemmas.Option.{same_Some}
use Rattle.ot_job.specs.Dealings.{Live, IsOf, NoneOut, IsOver}
use Rattle.ot_hall.specs.FloorView.{floor_of}
use Rattle.ot_hall.proofs.FloorLemmas.{collects-pending, collects-ended, collects-failed}
use Rattle.ot_hall.proofs.TurnLemmas.{hall-left}
use Rattle.ot_hall.proofs.hall.Hall.collect.Goals as goal

pub returns-in-Working : goal.returns-in-Working
returns-in-Working c =
    collects-pending (floor_of c.self.inside) _ c.args.tenant c.args.spec.now c.in-Some.job.now c.self.view_is (sym c.in-Some.ensures) (c.if-not-is_of.ensures.0 refl)
    (subst (λ s. (s ≡ Working) ⊎ (s ≡ Failing)) c.state.ensures.is c.in-Working.is)

pub returns-in-Ended : goal.returns-in-Ended
returns-in-Ended c =
    let job = c.in-Some.job.now in
    let of : IsOf c.args.spec.now job = c.if-not-is_of.ensures.0 refl in
    let same : job ≡ c.take-job.result = same_Some job c.take-job.result (c.in-Some.ensures ∙ c.take-job.ensures.job) in
    collects-ended (floor_of c.self.inside) _ c.args.tenant c.args.spec.now job c.into_outcome.result c.take-job.new.self c.self.view_is (sym c.in-Some.ensures) of
    (sym c.state.ensures.is ∙ c.in-Ended.is) (subst (λ s. IsOver s → NoneOut job) c.in-Ended.is c.state.ensures.calm tt)
    (c.into_outcome.ensures c.args.spec.now (subst (λ (j : Live). IsOf c.args.spec.now j) same of)) c.take-job.ensures.left

pub returns-in-Failed : goal.returns-in-Failed
returns-in-Failed c =
    let job = c.in-Some.job.now in
    collects-failed (floor_of c.self.inside) _ c.args.tenant c.args.spec.now job c.take-job-in-Failed.new.self c.self.view_is (sym c.in-Some.ensures) (c.if-not-is_of.ensures.0 refl)
    (sym c.state.ensures.is ∙ c.in-Failed.is) (subst (λ s. IsOver s → NoneOut job) c.in-Failed.is c.state.ensures.calm tt) c.take-job-in-Failed.ensures.left

pub invariant_of-self : goal.invariant_of-self
invariant_of-self c =
    hall-left c.self.inside c.args.tenant c.in-Some.job.now c.take-job.new.self c.put.new.self c.self.invariant (sym c.in-Some.ensures) c.take-job.ensures.left c.put.ensures

pub invariant_of-self-in-Failed : goal.invariant_of-self-in-Failed
invariant_of-self-in-Failed c =
    hall-left c.self.inside c.args.tenant c.in-Some.job.now c.take-job-in-Failed.new.self c.put-in-Failed.new.self c.self.invariant (sym c.in-Some.ensures) c.take-job-in-Failed.ensures.left c.put-in-Failed.ensures
