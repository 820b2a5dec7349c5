use Rattle.std.proofs.Common.{ℕ, List, None, Some, ap, subst}
use Rattle.ot_model.specs.declared.stmt.Use.{Use}
use Rattle.ot_model.specs.View.{stmt_of, stmts_of}
use Rattle.ot_why_blame.specs.Walk.{pending_of, Arrives}
use Rattle.ot_why_blame.proofs.WalkLemmas.{somewhere_of}
use Rattle.ot_why_blame.proofs.race.race_with.Goals as goal

pub returns-in-Some-conflict-clause-races : goal.returns-in-Some-conflict-clause-races
returns-in-Some-conflict-clause-races c =
    let body = stmts_of c.args.body.now.items in
    let x = stmt_of c.in-Err.arrived.stmt.now in
    let child : ℕ × List Use = (c.in-Some.child.place, c.in-Some.child.decl.now) in record {
      meets = somewhere_of c.args.search.place x (Some child) 1 body
          (subst (λ now. Arrives 1 body None c.args.search.place x now) (ap pending_of c.in-Some.is) c.in-Err.ensures.arrives);
      conflicts = c.in-Some-conflict.ensures;
    }
