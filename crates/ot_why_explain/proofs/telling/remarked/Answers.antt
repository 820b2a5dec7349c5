use Rattle.std.proofs.Common.{◌++◌, ◌∷◌, [], sym, subst, ap, ◌∙◌, inl, inr, refl, append_assoc}
use Rattle.ot_session.specs.Session.{HasNoEnd}
use Rattle.ot_why_explain.proofs.ChunkLemmas.{chunk_on, clean_all, clean_front}
use Rattle.ot_why_explain.specs.Explaining.{remark_line}
use Rattle.ot_why_explain.proofs.RemarkLemmas.{first_line, opens_first, opens_more}
use Rattle.ot_why_explain.proofs.telling.remarked.Goals as goal

pub loop-at-preserved : goal.loop-at-preserved
loop-at-preserved c = λ code first begins.
    let line = c.split_at.result.0.now in
    let out = c.loop-at.out.items in
    let clean = subst HasNoEnd (sym c.split_at.ensures.front) (clean_front c.loop-at.rest.now c.in-Some.at c.in-Some.ensures.0.high c.in-Some.ensures.0.before) in
    inr (elim (c.loop-at.invariant code first begins) [
      | inl none ↦
          let cut = first_line code first line c.split_at-in-Some.result.1.now
          (sym begins ∙ sym none.1
          ∙ sym (chunk_on c.loop-at.rest.now [] c.loop-at.rest.now line c.split_at.result.1.now c.split_at-in-Some.result.1.now c.in-Some.at refl
          c.in-Some.ensures.0.high c.in-Some.ensures.1 c.split_at.ensures.front c.split_at.ensures.back c.split_at-in-Some.ensures.back)
          ∙ append_assoc line (10 ∷ []) c.split_at-in-Some.result.1.now) in
          opens_first code line c.put_remark.new.out.items cut.0 clean cut.1 (c.in_ok-put_remark.ensures ∙ ap (λ o. o ++ remark_line line) none.0)
      | inr opened ↦ opens_more code out c.put_remark.new.out.items line opened clean c.in_ok-put_remark.ensures
    ])

pub returns : goal.returns
returns c = λ code first begins.
    let line = c.loop-at.rest.now in
    let clean = clean_all line c.in_default.ensures in
    elim (c.loop-at.invariant code first begins) [
      | inl none ↦ opens_first code line c.put_remark-2.new.out.items first clean (none.1 ∙ begins) (c.in_ok-put_remark-2.ensures ∙ ap (λ o. o ++ remark_line line) none.0)
      | inr opened ↦ opens_more code c.loop-at.out.items c.put_remark-2.new.out.items line opened clean c.in_ok-put_remark-2.ensures
    ]
