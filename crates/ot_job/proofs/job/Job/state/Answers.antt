use Rattle.std.proofs.Common.{sym, ap, ◌∙◌, ◌≡◌, subst, true, false, true≢false}
use Rattle.ot_job.proofs.Common.{Live, all_ended, any_out, IsWell, lengths, Working, Failing, Ended, Failed}
use Rattle.ot_job.proofs.DealingsLemmas.{none-out, out-none}
use Rattle.ot_job.proofs.StartLemmas.{ended-none-out, state-is-failing, state-is-failed, state-is-ended, state-is-working}
use Rattle.ot_job.proofs.job.Job.state.Goals as goal
use Rattle.ot_job.specs.Dealings.{live_state, IsOver, NoneOut}
use Rattle.ot_job.specs.Holding.{AllHold, HavePresent, ArePiecesApart}
use Rattle.ot_job.specs.Kept.{IsKeptIn}
use Rattle.ot_job.specs.declared.state.State.{State}

-- what holds of the job wherever it stands
stands : (now : Live) → IsWell now → (s : State) → s ≡ live_state now → (IsOver s → NoneOut now) → (s ≡ Failing → NoneOut now → ⊥) → IsKeptIn s now
    → record { is : s ≡ live_state now; calm : IsOver s → NoneOut now; going : s ≡ Failing → NoneOut now → ⊥; kept : IsKeptIn s now; holds : AllHold now; present : HavePresent now; apart : ArePiecesApart now; lengths : lengths now.cells ≡ lengths now.before }
stands now w s is calm going kept = record { is = is; calm = calm; going = going; kept = kept; holds = w.holds; present = w.present; apart = w.apart; lengths = w.lengths }

pub returns-then-any_out : goal.returns-then-any_out
returns-then-any_out c =
    let now = c.args.self.now in
    let failing = sym (ap (λ (l : Live). l.failing) c.self.view_is) ∙ c.if-self.true in
    let some : any_out now.regions ≡ true = sym (ap (λ (l : Live). any_out l.regions) c.self.view_is) ∙ sym c.any_out.ensures ∙ c.if-any_out.true in
    stands now (subst IsWell c.self.view_is c.self.invariant) Failing (state-is-failing now failing some) (λ over. absurd over) (λ is none. true≢false (sym some ∙ out-none now none)) tt

pub returns-else-any_out : goal.returns-else-any_out
returns-else-any_out c =
    let now = c.args.self.now in
    let failing = sym (ap (λ (l : Live). l.failing) c.self.view_is) ∙ c.if-self.true in
    let none : any_out now.regions ≡ false = sym (ap (λ (l : Live). any_out l.regions) c.self.view_is) ∙ sym c.any_out.ensures ∙ c.if-any_out.false in
    stands now (subst IsWell c.self.view_is c.self.invariant) Failed (state-is-failed now failing none) (λ over. none-out now none) (λ is some. cc) tt

pub returns-then-all_ended : goal.returns-then-all_ended
returns-then-all_ended c =
    let now = c.args.self.now in
    let w = subst IsWell c.self.view_is c.self.invariant in
    let working = sym (ap (λ (l : Live). l.failing) c.self.view_is) ∙ c.if-self.false in
    let all : all_ended now.regions ≡ true = sym (ap (λ (l : Live). all_ended l.regions) c.self.view_is) ∙ sym c.all_ended.ensures ∙ c.if-all_ended.true in
    stands now w Ended (state-is-ended now working all) (λ over. none-out now (ended-none-out now w working all)) (λ is some. cc) (w.course working).kept

pub returns-else-all_ended : goal.returns-else-all_ended
returns-else-all_ended c =
    let now = c.args.self.now in
    let w = subst IsWell c.self.view_is c.self.invariant in
    let working = sym (ap (λ (l : Live). l.failing) c.self.view_is) ∙ c.if-self.false in
    let left : all_ended now.regions ≡ false = sym (ap (λ (l : Live). all_ended l.regions) c.self.view_is) ∙ sym c.all_ended.ensures ∙ c.if-all_ended.false in
    stands now w Working (state-is-working now working left) (λ over. absurd over) (λ is none. cc) (w.course working).kept
