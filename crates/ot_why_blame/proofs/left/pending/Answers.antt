use Rattle.std.proofs.Common.{inl}
use Rattle.std.specs.Prelude.{None}
use Rattle.ot_model.specs.View.{stmts_of}
use Rattle.ot_why_blame.proofs.WalkLemmas.{pending_at_end}
use Rattle.ot_why_blame.proofs.FindLemmas.{none_met, not_none}
use Rattle.ot_why_blame.proofs.left.pending.Goals as goal

pub returns-in-Ok-clause-pending : goal.returns-in-Ok-clause-pending
returns-in-Ok-clause-pending c = pending_at_end c.args.place (stmts_of c.args.body.now.items) c.in-Ok.behind.child c.in-Ok.ensures.carries

pub returns-in-Ok-clause-carried : goal.returns-in-Ok-clause-carried
returns-in-Ok-clause-carried c = c.in-Ok.ensures.follows.0

-- no statement has the place 0
pub returns-in-Err-clause-carried : goal.returns-in-Err-clause-carried
returns-in-Err-clause-carried c =
    absurd (not_none _ _ c.in-Err.ensures.follows (none_met 0 c.args.task None c.args.place (stmts_of c.args.body.now.items) (inl c.requires.some)))
