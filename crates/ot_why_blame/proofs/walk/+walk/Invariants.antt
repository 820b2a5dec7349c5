use Rattle.std.proofs.Common.{◌≡◌, ℕ, ◌+◌, drop}
use Rattle.ot_model.specs.View.{stmts_of}
use Rattle.ot_model.specs.Tree.{S, size}
use Rattle.ot_check.specs.Offences.{Passes}
use Rattle.ot_why_blame.specs.Walk.{Pending, pending_of, pending_carried, met_statement, Carries, Arrives}
use Rattle.ot_why_blame.proofs.walk.+walk.Given as goal

abbrev pub invariant-walk-loop-stmt : goal.invariant-walk-loop-stmt
invariant-walk-loop-stmt l =
    (l.behind.next + size (stmts_of (drop l.stmt-index l.body.items)) ≡ l.place + size (stmts_of l.body.items))
    × ((now : Pending) → Carries (Passes l.behind.next (stmts_of (drop l.stmt-index l.body.items))) (pending_of l.behind.child) now
    → Carries (Passes l.place (stmts_of l.body.items)) (pending_of l.initial.child) now)
    × ((place : ℕ) (x : S) (now : Pending) → Arrives l.behind.next (stmts_of (drop l.stmt-index l.body.items)) (pending_of l.behind.child) place x now
    → Arrives l.place (stmts_of l.body.items) (pending_of l.initial.child) place x now)
    × (pending_carried l.search.child (pending_of l.initial.child) l.place (stmts_of l.body.items)
    ≡ pending_carried l.search.child (pending_of l.behind.child) l.behind.next (stmts_of (drop l.stmt-index l.body.items)))
    × (met_statement l.search.place l.search.child (pending_of l.initial.child) l.place (stmts_of l.body.items)
    ≡ met_statement l.search.place l.search.child (pending_of l.behind.child) l.behind.next (stmts_of (drop l.stmt-index l.body.items)))
