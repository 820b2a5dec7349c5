use Rattle.std.proofs.Common.{◌≡◌, ◌∙◌, sym, ap, true≢false}
use Rattle.ot_model.specs.Programs.{Expanded}
use Rattle.ot_check.proofs.EqualLemmas.{expanded-same}
use Rattle.ot_check.proofs.job.same_program.Goals as goal

pub returns-then-same_shows : goal.returns-then-same_shows
returns-then-same_shows c =
    let p = c.args.one.now.program in
    let q = c.args.other.now.program in
    let shows : p.shows.items ≡ q.shows.items = sym c.deref.ensures.value ∙ c.same_shows.ensures.0 c.if-same_shows.true ∙ c.deref-2.ensures.value in
    ((λ yes. expanded-same p q shows (c.same_body.ensures.0 yes)), λ is. c.same_body.ensures.1 (ap (λ (e : Expanded). e.body) is))

pub returns-else-same_shows : goal.returns-else-same_shows
returns-else-same_shows c = (
  (λ yes. absurd (true≢false (sym yes ∙ c.if-same_shows.false))),
  λ is. c.same_shows.ensures.1 (c.deref.ensures.value ∙ ap (λ (e : Expanded). e.shows) is ∙ sym c.deref-2.ensures.value),
)
