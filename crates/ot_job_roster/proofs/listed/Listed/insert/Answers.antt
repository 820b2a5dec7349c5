use Rattle.std.proofs.Common.{◌≡◌, ◌+◌, ◌/◌, ◌==◌, ◌∙◌, true, false, length, refl, ap, sym, subst, arith, set}
use Rattle.std.proofs.lemmas.List.{length-set}
use Rattle.ot_job_roster.specs.Listed.{has, Numbers, numbers_in, IsListBelow}
use Rattle.ot_job_roster.proofs.ListedLemmas.{had, has-now, others-have, one-more, numbers-ordered, numbers-few}
use Rattle.ot_job_roster.proofs.listed.Listed.insert.Goals.{After-with_bit}
use Rattle.ot_job_roster.proofs.listed.Listed.insert.Goals as goal

changed : (c : After-with_bit) → length (numbers_in (set c.self.inside.words.items (c.args.number / 64) c.with_bit.result)) ≡ length (numbers_in c.self.inside.words.items) + 1
changed c =
    one-more c.self.inside.words.items c.args.self.now.room c.args.number c.index-word.result.now c.with_bit.result (ap (λ (v : Numbers). v.room) c.self.view_is) c.requires.within c.index-word.ensures (λ i h apart. c.with_bit.ensures.others i apart)
    (sym c.has_bit.ensures ∙ c.if-not-has_bit.true) (ap (λ b. b == 1) c.with_bit.ensures.set)

pub overflow_add-self : goal.overflow_add-self
overflow_add-self c =
    let ws = c.self.inside.words.items in
    let n = c.args.number in
    omega (arith, changed (goal.at.overflow_add-self c).After-with_bit, c.self.invariant.0, c.self.invariant.1, numbers-few (set ws (n / 64) c.with_bit.result), length-set ws (n / 64) c.with_bit.result)

pub invariant_of-self : goal.invariant_of-self
invariant_of-self c = (
  omega (arith, changed (goal.at.invariant_of-self c).After-with_bit, c.self.invariant.0),
  omega (arith, c.self.invariant.1, length-set c.self.inside.words.items (c.args.number / 64) c.with_bit.result),
)

pub returns-then-not-has_bit-clause-ordered : goal.returns-then-not-has_bit-clause-ordered
returns-then-not-has_bit-clause-ordered c = numbers-ordered (set c.self.inside.words.items (c.args.number / 64) c.with_bit.result)

pub returns-then-not-has_bit-clause-noted : goal.returns-then-not-has_bit-clause-noted
returns-then-not-has_bit-clause-noted c =
    has-now c.self.inside.words.items c.args.self.now.room c.args.number c.index-word.result.now c.with_bit.result (ap (λ (v : Numbers). v.room) c.self.view_is) c.requires.within c.index-word.ensures (λ i h apart. c.with_bit.ensures.others i apart)
    true (ap (λ b. b == 1) c.with_bit.ensures.set)

pub returns-then-not-has_bit-clause-others : goal.returns-then-not-has_bit-clause-others
returns-then-not-has_bit-clause-others c = λ k apart.
    others-have c.self.inside.words.items c.args.self.now.room c.args.number c.index-word.result.now c.with_bit.result (ap (λ (v : Numbers). v.room) c.self.view_is) c.requires.within c.index-word.ensures (λ i h apart. c.with_bit.ensures.others i apart) k apart
    ∙ ap (λ (v : Numbers). has k v.listed) c.self.view_is

pub returns-else-not-has_bit-clause-ordered : goal.returns-else-not-has_bit-clause-ordered
returns-else-not-has_bit-clause-ordered c = subst (λ (v : Numbers). IsListBelow v.room v.listed) c.self.view_is (numbers-ordered c.self.inside.words.items)

pub returns-else-not-has_bit-clause-noted : goal.returns-else-not-has_bit-clause-noted
returns-else-not-has_bit-clause-noted c =
    ap (λ (v : Numbers). has c.args.number v.listed) (sym c.self.view_is)
    ∙ had c.self.inside.words.items c.args.self.now.room c.args.number c.index-word.result.now c.index-word.result.now (ap (λ (v : Numbers). v.room) c.self.view_is) c.requires.within c.index-word.ensures (λ i h apart. refl)
    true (sym c.has_bit.ensures ∙ c.if-not-has_bit.false)
