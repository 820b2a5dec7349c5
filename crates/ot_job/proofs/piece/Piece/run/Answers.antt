use Rattle.std.proofs.Common.{◌∙◌, refl, option_map}
use Rattle.ot_job.proofs.Common.{expr_of, val, value_at}
use Rattle.ot_job.proofs.RunLemmas.{readable-still, through, made-of}
use Rattle.ot_job.proofs.piece.Piece.run.Goals as goal

pub answer-answer-requires : goal.answer-answer-requires
answer-answer-requires c =
    readable-still (λ e. e.now) c.as_ref.result c.self.inside.condition expr_of (value_at c.self.inside.lent) (value_at c.assign_all.new.lent)
    c.as_ref.ensures.value c.assign_all.ensures.there c.self.invariant.readable

pub invariant_of-result : goal.invariant_of-result
invariant_of-result c =
    record {
      made = made-of c.self.inside.assigns c.self.inside.lent c.assign_all.new.lent c.assign_all.ensures.lease c.self.invariant.fresh
          c.assign_all.ensures.made;
      told = c.answer-answer.ensures ∙ through (λ e. e.now) (λ e. val (value_at c.assign_all.new.lent) (expr_of e)) c.as_ref.result c.self.inside.condition c.as_ref.ensures.value
          ∙ through expr_of (λ x. val (value_at c.assign_all.new.lent) x) c.self.inside.condition (option_map expr_of c.self.inside.condition) refl;
    }

pub returns-clause-made : goal.returns-clause-made
returns-clause-made c =
    record {
      made = made-of c.self.inside.assigns c.self.inside.lent c.assign_all.new.lent c.assign_all.ensures.lease c.self.invariant.fresh
          c.assign_all.ensures.made;
      told = c.answer-answer.ensures ∙ through (λ e. e.now) (λ e. val (value_at c.assign_all.new.lent) (expr_of e)) c.as_ref.result c.self.inside.condition c.as_ref.ensures.value
          ∙ through expr_of (λ x. val (value_at c.assign_all.new.lent) x) c.self.inside.condition (option_map expr_of c.self.inside.condition) refl;
    }
