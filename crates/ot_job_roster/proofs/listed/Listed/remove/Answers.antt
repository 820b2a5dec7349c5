use Rattle.std.proofs.Common.{◌≡◌, ◌+◌, ◌/◌, ◌==◌, ◌∙◌, true, false, length, refl, ap, sym, subst, arith, set}
use Rattle.std.proofs.lemmas.List.{length-set}
use Rattle.ot_job_roster.specs.Listed.{has, Numbers, numbers_in, IsListBelow}
use Rattle.ot_job_roster.proofs.ListedLemmas.{had, has-now, others-have, one-fewer, numbers-ordered}
use Rattle.ot_job_roster.proofs.listed.Listed.remove.Goals.{After-without_bit}
use Rattle.ot_job_roster.proofs.listed.Listed.remove.Goals as goal

changed : (c : After-without_bit) → length (numbers_in c.self.inside.words.items) ≡ length (numbers_in (set c.self.inside.words.items (c.args.number / 64) c.without_bit.result)) + 1
changed c =
    one-fewer c.self.inside.words.items c.args.self.now.room c.args.number c.index-word.result.now c.without_bit.result (ap (λ (v : Numbers). v.room) c.self.view_is) c.requires.within c.index-word.ensures (c.without_bit.ensures.others)
    (sym c.has_bit.ensures ∙ c.if-has_bit.true) (ap (λ b. b == 1) c.without_bit.ensures.clear)

pub overflow_sub-self : goal.overflow_sub-self
overflow_sub-self c =
    let ws = c.self.inside.words.items in
    let n = c.args.number in
    omega (arith, changed (goal.at.overflow_sub-self c).After-without_bit, c.self.invariant.0, c.self.invariant.1)

pub invariant_of-self : goal.invariant_of-self
invariant_of-self c = (
  omega (arith, changed (goal.at.invariant_of-self c).After-without_bit, c.self.invariant.0),
  omega (arith, c.self.invariant.1, length-set c.self.inside.words.items (c.args.number / 64) c.without_bit.result),
)

pub returns-then-has_bit-clause-ordered : goal.returns-then-has_bit-clause-ordered
returns-then-has_bit-clause-ordered c = numbers-ordered (set c.self.inside.words.items (c.args.number / 64) c.without_bit.result)

pub returns-then-has_bit-clause-noted : goal.returns-then-has_bit-clause-noted
returns-then-has_bit-clause-noted c =
    has-now c.self.inside.words.items c.args.self.now.room c.args.number c.index-word.result.now c.without_bit.result (ap (λ (v : Numbers). v.room) c.self.view_is) c.requires.within c.index-word.ensures (c.without_bit.ensures.others)
    false (ap (λ b. b == 1) c.without_bit.ensures.clear)

pub returns-then-has_bit-clause-others : goal.returns-then-has_bit-clause-others
returns-then-has_bit-clause-others c = λ k apart.
    others-have c.self.inside.words.items c.args.self.now.room c.args.number c.index-word.result.now c.without_bit.result (ap (λ (v : Numbers). v.room) c.self.view_is) c.requires.within c.index-word.ensures (c.without_bit.ensures.others) k apart
    ∙ ap (λ (v : Numbers). has k v.listed) c.self.view_is

pub returns-else-has_bit-clause-ordered : goal.returns-else-has_bit-clause-ordered
returns-else-has_bit-clause-ordered c = subst (λ (v : Numbers). IsListBelow v.room v.listed) c.self.view_is (numbers-ordered c.self.inside.words.items)

pub returns-else-has_bit-clause-noted : goal.returns-else-has_bit-clause-noted
returns-else-has_bit-clause-noted c =
    ap (λ (v : Numbers). has c.args.number v.listed) (sym c.self.view_is)
    ∙ had c.self.inside.words.items c.args.self.now.room c.args.number c.index-word.result.now c.index-word.result.now (ap (λ (v : Numbers). v.room) c.self.view_is) c.requires.within c.index-word.ensures (λ i h apart. refl)
    false (sym c.has_bit.ensures ∙ c.if-has_bit.false)
