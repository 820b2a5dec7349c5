use Rattle.std.proofs.Common.{◌<◌, ℕ, List, length, get_or, ap, inl, inr, ◌∙◌, sym, refl, subst, arith, true≢false}
use Rattle.std.proofs.lemmas.List.{get_or_default}
use Rattle.slab.specs.Slab.{values}
use Rattle.slab.proofs.SlabLemmas.{Contains-cons, Contains-cons_cases, Contains-entries}
use Rattle.ot_model.specs.Cells.{Conflict}
use Rattle.ot_owner.specs.Owning.{Loan}
use Rattle.ot_owner.proofs.SlotLemmas.{at-held, held-at}
use Rattle.ot_owner.proofs.rights.Rights.is_free_for.Goals as goal

pub loop-key-init : goal.loop-key-init
loop-key-init c =
    let left = c.into_iter-key-iterator.ensures.into_iter_gives ∙ c.iter-key-items.ensures.rest in (
      tt,
      tt,
      λ key right there. inr (rw left ((Contains-entries c.args.self.now.loans key right).1 there)),
      λ key right listed. (Contains-entries c.args.self.now.loans key right).0 (rw left at listed),
    )

pub loop-key-preserved : goal.loop-key-preserved
loop-key-preserved c =
    let at = c.in-Some.ensures.steps in (
      tt,
      tt,
      λ key right there. elim (c.loop-key.invariant.2 key right there) [
        | inl free ↦ inl free
        | inr listed ↦ elim (Contains-cons_cases _ _ _ (rw at at listed)) [
          | inl same ↦ inl (λ conflict. true≢false (sym (c.conflicts.ensures.1 (subst (λ (r : Loan). Conflict r.lease.uses c.args.decl.now) (sym (ap (λ e. e.1) same)) conflict)) ∙ c.if-conflicts.false))
          | inr rest ↦ inr rest
        ]
      ],
      λ key right there. c.loop-key.invariant.3 key right (rw at (Contains-cons _ _ _ there)),
    )

pub returns-then-conflicts : goal.returns-then-conflicts
returns-then-conflicts c =
    let there = c.loop-key.invariant.3 c.in-Some._key c.in-Some.loan.now (rw c.in-Some.ensures.steps (0, omega arith, refl)) in
    let (k, within, at) = at-held c.args.self.now.loans.slots c.in-Some.loan.now c.in-Some._key there in (
      λ no. absurd (true≢false (sym no)),
      λ free. absurd (free k c.in-Some.loan.now within (subst (λ (r : Loan). Conflict r.lease.uses c.args.decl.now) (sym at) (c.conflicts.ensures.0 c.if-conflicts.true))),
    )

pub returns : goal.returns
returns c = (λ yes. free, λ all. refl)
  where
    out : List Loan
    out = values c.args.self.now.loans

    free : (k : ℕ) (d : Loan) → k < length out → ¬ Conflict (get_or out k d).lease.uses c.args.decl.now
    free k d within =
        let it = get_or out k d in
        let held = held-at c.args.self.now.loans.slots it (k, within, get_or_default out k it d within) in
        elim (c.loop-key.invariant.2 held.0 it held.1) [
          | inl none ↦ none
          | inr listed ↦ let there = rw c.in-None.ensures.steps.0 at listed in λ _. omega (arith, there.1)
        ]
