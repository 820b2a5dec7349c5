use Rattle.std.proofs.Common.{◌<◌, ◌∙◌, List, length, get_or, ap, sym, subst, arith}
use Rattle.ot_job.proofs.Common.{Region, control_executed, at, CreatesInOrder}
use Rattle.ot_job.proofs.ClaimableLemmas.{at-here}
use Rattle.ot_job.proofs.StepLemmas.{executed-alone, executed-beside}
use Rattle.ot_job.proofs.tasks.execute.Goals.{After-step}
use Rattle.ot_job.proofs.tasks.execute.Goals as goal

within : (c : After-step) → c.args.i < length c.reserve.new.self.items
within c = omega (arith, c.requires.known, ap length c.reserve.ensures.items, c.args.tasks.now.ok.0)

-- the task's region, before memory was reserved
ordered : (c : After-step) → CreatesInOrder c.index_mut.result.now → CreatesInOrder (at c.args.tasks.now.items c.args.i)
ordered c creates =
    subst CreatesInOrder (sym (at-here c.args.tasks.now.items c.args.i c.index_mut.result.now (omega (arith, c.requires.known, c.args.tasks.now.ok.0))
    (c.index_mut.ensures.value ∙ ap (λ (l : List Region). get_or l c.args.i c.index_mut.result.now) c.reserve.ensures.items))) creates

pub returns-in-Some-clause-executed : goal.returns-in-Some-clause-executed
returns-in-Some-clause-executed c =
    c.push_reserved.ensures.items
    ∙ executed-beside c.args.taken c.args.group c.args.i c.reserve.new.self.items c.index_mut.result.now c.step.new.self (within (goal.at.returns-in-Some-clause-executed c).After-step) c.index_mut.ensures.value
    c.in_ok-child.ensures.stepped c.in-Some.child (sym c.in-Some.is ∙ c.in_ok-child.ensures.child)
    ∙ ap (λ (l : List Region). control_executed c.args.taken c.args.group c.args.i l) c.reserve.ensures.items

pub returns-in-Some-clause-ordered : goal.returns-in-Some-clause-ordered
returns-in-Some-clause-ordered c = ordered (goal.at.returns-in-Some-clause-ordered c).After-step c.in_ok-child.ensures.ordered

pub returns-in_default-clause-executed : goal.returns-in_default-clause-executed
returns-in_default-clause-executed c =
    executed-alone c.args.taken c.args.group c.args.i c.reserve.new.self.items c.index_mut.result.now c.step.new.self (within (goal.at.returns-in_default-clause-executed c).After-step) c.index_mut.ensures.value
    c.in_ok-child.ensures.stepped (sym c.in_default.is ∙ c.in_ok-child.ensures.child)
    ∙ ap (λ (l : List Region). control_executed c.args.taken c.args.group c.args.i l) c.reserve.ensures.items

pub returns-in_default-clause-ordered : goal.returns-in_default-clause-ordered
returns-in_default-clause-ordered c = ordered (goal.at.returns-in_default-clause-ordered c).After-step c.in_ok-child.ensures.ordered
