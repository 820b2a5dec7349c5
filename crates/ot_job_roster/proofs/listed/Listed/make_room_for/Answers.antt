use Rattle.std.proofs.Common.{◌≡◌, ◌∙◌, ◌++◌, ◌∷◌, [], length, ap, sym, arith}
use Rattle.std.proofs.lemmas.List.{length-append}
use Rattle.ot_job_roster.specs.Listed.{Numbers, numbers_in}
use Rattle.ot_job_roster.proofs.ListedLemmas.{numbers-longer}
use Rattle.ot_job_roster.proofs.listed.Listed.make_room_for.Goals as goal

pub invariant_of-self-then-number-len : goal.invariant_of-self-then-number-len
invariant_of-self-then-number-len c =
    let ws = c.self.inside.words.items in
    let items : c.push_reserved.new.self.items ≡ ws ++ 0 ∷ [] = c.push_reserved.ensures.items ∙ ap (λ l. l ++ 0 ∷ []) c.reserve.ensures.items in (
      c.self.invariant.0 ∙ sym (ap length (ap numbers_in items ∙ numbers-longer ws)),
      omega (arith, ap length items, length-append ws (0 ∷ []), c.if-number-len.true, c.len.ensures, c.self.inside.words.ok.0, c.requires.few, c.requires.next, ap (λ (v : Numbers). v.room) c.self.view_is),
    )

pub returns-in_ok-reserve-clause-same : goal.returns-in_ok-reserve-clause-same
returns-in_ok-reserve-clause-same c =
    let ws = c.self.inside.words.items in
    let items : c.push_reserved.new.self.items ≡ ws ++ 0 ∷ [] = c.push_reserved.ensures.items ∙ ap (λ l. l ++ 0 ∷ []) c.reserve.ensures.items in
    ap numbers_in items ∙ numbers-longer ws ∙ ap (λ (v : Numbers). v.listed) c.self.view_is
