use Rattle.std.proofs.Common.{ap, ◌∙◌}
use Rattle.ot_job.specs.Dealings.{work_of}
use Rattle.ot_job.specs.Taken.{Taken as Piece}
use Rattle.ot_core.specs.SceneView.{scene_of}
use Rattle.ot_core.proofs.HandedLemmas.{total-small, hand-read, given, broken}
use Rattle.ot_core.proofs.world.World.finish.Goals as goal

pub settle-requires : goal.settle-requires
settle-requires c = total-small (scene_of c.self.inside) c.self.invariant

pub invariant_of-self-in-Ok : goal.invariant_of-self-in-Ok
invariant_of-self-in-Ok c =
    (given _ _ c.args.hand c.in-Some.held c.run.result c.in-Ok.units _ _ c.self.view_is c.self.invariant c.requires (hand-read _ _ _ _ _ c.requires c.self.invariant.hands_many c.index_mut.ensures.value c.take.ensures.value c.in-Some.is)
    (c.run.ensures.task ∙ ap (λ (p : Piece). p.task) c.into_piece-piece.ensures) (c.run.ensures.ran ∙ ap work_of c.into_piece-piece.ensures) c.in-Ok.ensures.settled c.take.ensures.after).0

pub returns-in-Ok : goal.returns-in-Ok
returns-in-Ok c =
    (given _ _ c.args.hand c.in-Some.held c.run.result c.in-Ok.units _ _ c.self.view_is c.self.invariant c.requires (hand-read _ _ _ _ _ c.requires c.self.invariant.hands_many c.index_mut.ensures.value c.take.ensures.value c.in-Some.is)
    (c.run.ensures.task ∙ ap (λ (p : Piece). p.task) c.into_piece-piece.ensures) (c.run.ensures.ran ∙ ap work_of c.into_piece-piece.ensures) c.in-Ok.ensures.settled c.take.ensures.after).1

pub invariant_of-self-in-Err : goal.invariant_of-self-in-Err
invariant_of-self-in-Err c =
    (broken _ _ c.args.hand c.in-Some.held c.run.result c.in-Err.done _ _ _ c.self.view_is c.self.invariant c.requires (hand-read _ _ _ _ _ c.requires c.self.invariant.hands_many c.index_mut.ensures.value c.take.ensures.value c.in-Some.is)
    (c.run.ensures.task ∙ ap (λ (p : Piece). p.task) c.into_piece-piece.ensures) (c.run.ensures.ran ∙ ap work_of c.into_piece-piece.ensures) c.in-Err.ensures.refused c.in-Err.ensures.same c.fail.ensures c.take.ensures.after).0

pub returns : goal.returns
returns c =
    (broken _ _ c.args.hand c.in-Some.held c.run.result c.in-Err.done _ _ _ c.self.view_is c.self.invariant c.requires (hand-read _ _ _ _ _ c.requires c.self.invariant.hands_many c.index_mut.ensures.value c.take.ensures.value c.in-Some.is)
    (c.run.ensures.task ∙ ap (λ (p : Piece). p.task) c.into_piece-piece.ensures) (c.run.ensures.ran ∙ ap work_of c.into_piece-piece.ensures) c.in-Err.ensures.refused c.in-Err.ensures.same c.fail.ensures c.take.ensures.after).1
