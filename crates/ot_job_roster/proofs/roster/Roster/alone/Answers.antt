use Rattle.std.proofs.Common.{◌≡◌, ◌∙◌, ◌++◌, ◌∷◌, [], ℕ, List, map, refl, ap, arith}
use Rattle.ot_job_roster.specs.Listed.{has}
use Rattle.ot_job_roster.proofs.TellsLemmas.{tells-alone}
use Rattle.ot_job_roster.proofs.roster.Roster.alone.Goals as goal

pub returns : goal.returns
returns c = λ s test alone.
    let numbers : map (λ v. v.items) c.push_reserved.new.self.items ≡ [] ∷ [] =
    ap (map (λ v. v.items)) (c.push_reserved.ensures.items ∙ ap (λ l. l ++ c.new.result ∷ []) c.in_ok-children.ensures.items) ∙ ap (λ (l : List ℕ). l ∷ []) c.new.ensures.items in
    tells-alone s test _ c.set.new.self.room alone numbers refl refl (omega (arith, c.in_ok-make_room_for.ensures.room, c.set.ensures.room)) c.set.ensures.ordered c.set.ensures.noted
    (λ k apart. c.set.ensures.others k apart ∙ ap (has k) (c.make_room_for.ensures.same ∙ c.new-free.ensures.none))
