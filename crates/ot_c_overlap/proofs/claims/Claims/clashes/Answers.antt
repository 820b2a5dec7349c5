use Rattle.std.proofs.Common.{subst, inl, inr, arith}
use Rattle.std.proofs.lemmas.Bool.{cases_eq}
use Rattle.ot_c_overlap.specs.Claims.{DiffersAt}
use Rattle.ot_c_overlap.proofs.ClaimLemmas.{whole_free}
use Rattle.ot_c_overlap.proofs.claims.Claims.clashes.Goals as goal

pub returns-then-has_claimed-clause-none : goal.returns-then-has_claimed-clause-none
returns-then-has_claimed-clause-none c = λ same. whole_free c.args.item.now c.args.self.now c.requires (c.has_claimed.ensures c.if-has_claimed.true)

pub loop-index-preserved : goal.loop-index-preserved
loop-index-preserved c = (
  omega (arith, c.loop-index.invariant.0),
  λ k from below differs. elim (cases_eq k c.loop-index.index) [
    | inl last ↦ c.differs.ensures.none c.if-differs.false (subst (DiffersAt c.args.self.now c.args.item.now) last differs)
    | inr before ↦ c.loop-index.invariant.1 k from (omega (arith, below, before)) differs
  ],
)

pub returns-then-differs-clause-some : goal.returns-then-differs-clause-some
returns-then-differs-clause-some c = λ same.
    (c.loop-index.index, (c.loop-index.invariant.0, omega (arith, c.loop-index-test.true)), c.differs.ensures.some c.if-differs.true)

pub returns-clause-none : goal.returns-clause-none
returns-clause-none c = λ same clash. c.loop-index.invariant.1 clash.0 clash.1.0 (omega (arith, clash.1.1, c.loop-index-test.false)) clash.2
