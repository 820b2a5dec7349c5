use Rattle.std.proofs.Common.{◌≡◌, ◌∙◌, ap, sym, subst, arith, List, length}
use Rattle.ot_job.proofs.Common.{IfOk-from_err, Region, control_executed, tasks_next, HasPiece, is_claimable, members, AreKept, at, CreatesInOrder}
use Rattle.ot_job.proofs.KeepingLemmas.{long-tasks, kept-created}
use Rattle.ot_job.proofs.ViewLemmas.{on_err_always}
use Rattle.ot_job.proofs.tasks.Tasks.create.Goals.{After-make_room, After-deref}
use Rattle.ot_job.proofs.tasks.Tasks.create.Goals as goal

-- told of the tasks as the field has them
piece : (c : After-make_room) → HasPiece c.self.inside.tasks.items c.args.i × (tasks_next (at c.self.inside.tasks.items c.args.i).rest ≡ 0 → ⊥)
piece c = subst (λ (l : List Region). HasPiece l c.args.i × (tasks_next (at l c.args.i).rest ≡ 0 → ⊥)) (sym c.self.view_is) (c.requires.piece, c.requires.some)

-- the roster, once it has room
roomy : (c : After-make_room) → AreKept c.self.inside.tasks.items c.make_room.new.self
roomy c = let rs = c.self.inside.tasks.items in c.make_room.ensures.same (length rs) (members rs) (is_claimable rs) c.self.invariant

is : (c : After-deref) → c.deref.result.now ≡ control_executed c.args.taken c.args.group c.args.i c.self.inside.tasks.items
is c = c.deref.ensures.value ∙ c.in_ok-execute.ensures.executed

pub make_room-requires : goal.make_room-requires
make_room-requires c = omega (arith, c.requires.piece.known, ap length c.self.view_is, c.self.invariant.numbered.long)

pub execute-requires : goal.execute-requires
execute-requires c = record { known = omega (arith, c.requires.piece.known, ap length c.self.view_is, c.self.inside.tasks.ok.0) }

pub invariant_of-self : goal.invariant_of-self
invariant_of-self c = roomy (goal.at.invariant_of-self c).After-make_room

pub invariant_of-self-in_err-execute : goal.invariant_of-self-in_err-execute
invariant_of-self-in_err-execute c =
    subst (λ (l : List Region). AreKept l c.make_room.new.self) (sym c.in_err-execute.ensures.refused) (roomy (goal.at.invariant_of-self-in_err-execute c).After-make_room)

pub is_claimable-claimable-requires : goal.is_claimable-claimable-requires
is_claimable-claimable-requires c =
    let told = is (goal.at.is_claimable-claimable-requires c).After-deref in
    let (piece, some) = piece (goal.at.is_claimable-claimable-requires c).After-make_room in
    omega (arith, long-tasks c.args.taken c.args.group c.args.i c.self.inside.tasks.items piece.known some piece.out c.deref.result.now told, c.len-number.ensures, c.self.inside.tasks.ok.0)

pub add-requires-clause-known : goal.add-requires-clause-known
add-requires-clause-known c = omega (arith, c.requires.piece.known, ap length c.self.view_is, (roomy (goal.at.add-requires-clause-known c).After-make_room).numbered.long)

pub invariant_of-self-2 : goal.invariant_of-self-2
invariant_of-self-2 c =
    let rs = c.self.inside.tasks.items in
    let told = is (goal.at.invariant_of-self-2 c).After-deref in
    let (piece, some) = piece (goal.at.invariant_of-self-2 c).After-make_room in
    let kept = roomy (goal.at.invariant_of-self-2 c).After-make_room in
    let number : c.len-number.result ≡ length rs = omega (arith, c.len-number.ensures, c.self.inside.tasks.ok.0) in
    subst (λ (l : List Region). AreKept l c.add.new.self) c.deref.ensures.value
    (kept-created c.args.taken c.args.group c.args.i rs piece.known some piece.out c.deref.result.now told c.make_room.new.self c.add.new.self kept c.is_claimable-claimable.result
    (c.is_claimable-claimable.ensures ∙ ap (is_claimable c.deref.result.now) number) (c.add.ensures (length rs) (members rs) (is_claimable rs) kept))

pub returns-in_err-make_room : goal.returns-in_err-make_room
returns-in_err-make_room c =
    let err = c.from_residual.ensures.0 in record { ordered = IfOk-from_err _ _ err; executed = IfOk-from_err _ _ err; refused = on_err_always _ c.self.view_is }

pub returns-in_err-execute : goal.returns-in_err-execute
returns-in_err-execute c =
    let err = c.from_residual-in_err-execute.ensures.0 in
    record { ordered = IfOk-from_err _ _ err; executed = IfOk-from_err _ _ err; refused = on_err_always _ (c.in_err-execute.ensures.refused ∙ c.self.view_is) }

pub returns-clause-executed : goal.returns-clause-executed
returns-clause-executed c = c.in_ok-execute.ensures.executed ∙ ap (λ (l : List Region). control_executed c.args.taken c.args.group c.args.i l) c.self.view_is

pub returns-clause-ordered : goal.returns-clause-ordered
returns-clause-ordered c = subst (λ (l : List Region). CreatesInOrder (at l c.args.i)) c.self.view_is c.in_ok-execute.ensures.ordered
