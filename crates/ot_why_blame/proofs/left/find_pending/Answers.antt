use Rattle.std.proofs.Common.{inl, inr, arith}
use Rattle.std.proofs.lemmas.Bool.Decides.{leb_tells}
use Rattle.ot_model.specs.View.{stmts_of}
use Rattle.ot_why_blame.proofs.FindLemmas.{carried_none}
use Rattle.ot_why_blame.proofs.left.find_pending.Goals as goal

pub returns-clause-all : goal.returns-clause-all
returns-clause-all c = λ none task.
    let body = stmts_of c.args.body.now.items in
    let first = c.args.place in
    let below = c.requires.below in
    elim (leb_tells first task) [
      | inr (test, early) ↦ carried_none task first body (inl (omega (arith, early)))
      | inl (test, past) ↦ elim (leb_tells c.args.end task) [
        | inl (late, end) ↦ carried_none task first body (inr (omega (arith, end, below)))
        | inr (late, within) ↦ c.loop-other.invariant task past (omega arith)
      ]
    ]
