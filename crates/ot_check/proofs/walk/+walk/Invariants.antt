use Rattle.std.proofs.Common.{◌≡◌, ◌+◌, ◌≤◌, ◌&&◌, Bool, List, drop}
use Rattle.std.specs.Option.{option_or}
use Rattle.ot_model.specs.View.{stmts_of}
use Rattle.ot_model.specs.Tree.{size}
use Rattle.ot_model.specs.Names.{NamedIn}
use Rattle.ot_model.specs.declared.stmt.Use.{Use}
use Rattle.ot_check.specs.Offences.{Declared, Openings}
use Rattle.ot_sets.specs.Sets.{has}
use Rattle.ot_check.specs.Discipline.{Children, behind, through}
use Rattle.ot_check.specs.walk.Walk.{first}
use Rattle.ot_check.specs.walk.States.{Represents, IsBehind, lens_of}
use Rattle.ot_check.proofs.walk.+walk.Given as goal

abbrev pub invariant-walk-loop-stmt : goal.invariant-walk-loop-stmt
invariant-walk-loop-stmt l =
    (lens_of l.standing ≡ lens_of l.initial.standing)
    × (l.next + size (stmts_of (drop l.stmt-index l.body.items)) ≡ l.place + size (stmts_of l.body.items))
    × NamedIn (lens_of l.standing) (stmts_of (drop l.stmt-index l.body.items))
    × (l.standing.tasks.passed + l.place ≤ l.initial.standing.tasks.passed + l.next)
    × ((own : Declared) (opened : Openings) (children : Children) (decls : List (List Use)) → Represents own opened children decls l.initial.standing
    → (now : Children) × (keep : List Use → Bool) × IsBehind own opened now (λ k d. has l.initial.standing.region.unawaited k && keep d) decls l.standing
    × (first own opened children l.place (stmts_of l.body.items) ≡ option_or l.told (first own opened now l.next (stmts_of (drop l.stmt-index l.body.items))))
    × ((test : List Use → Bool) → behind children (stmts_of l.body.items) test ≡ behind now (stmts_of (drop l.stmt-index l.body.items)) test)
    × ((d : List Use) → through d (stmts_of l.body.items) ≡ (keep d && through d (stmts_of (drop l.stmt-index l.body.items)))))
