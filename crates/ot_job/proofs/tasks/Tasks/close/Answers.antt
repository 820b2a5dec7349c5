use Rattle.std.proofs.Common.{◌∙◌, ap, sym, subst, arith, refl, List, length, is_some}
use Rattle.ot_job.proofs.Common.{length-updated, Region, without, HasPiece, at, parent_of}
use Rattle.ot_job.proofs.tasks.Tasks.close.Goals.{then-i-gt0, else-i-gt0}
use Rattle.ot_job.proofs.tasks.Tasks.close.Goals as goal
use Rattle.ot_job.proofs.EachLemmas.{field-kept}

pub tell_parent-requires : goal.tell_parent-requires
tell_parent-requires c = record { known = c.requires.piece.known; finish = c.requires.finish c.if-i-gt0.true }

pub end-requires : goal.end-requires
end-requires c =
    let rs = c.args.self.now in
    let i = c.args.i in
    let told = without (at rs i).child in
    elim c.if-i-gt0.branch [
      | then-i-gt0 w ↦ (let is = w.self-is ∙ w.tell_parent.ensures in record {
        piece = record {
          known = omega (arith, c.requires.piece.known, ap length is, length-updated rs (parent_of rs i) told);
          out = ap (λ (l : List Region). is_some (at l i).running) is ∙ ap is_some (field-kept (λ r. r.running) told (λ r. refl) rs (parent_of rs i) i) ∙ c.requires.piece.out;
        };
        alive = ap (λ (l : List Region). (at l i).ended) is ∙ field-kept (λ r. r.ended) told (λ r. refl) rs (parent_of rs i) i ∙ c.requires.alive;
      })
      | else-i-gt0 w ↦ record {
        piece = subst (λ (l : List Region). HasPiece l i) (sym w.self-is) c.requires.piece;
        alive = ap (λ (l : List Region). (at l i).ended) w.self-is ∙ c.requires.alive;
      }
    ]
