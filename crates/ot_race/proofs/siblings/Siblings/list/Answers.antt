use Rattle.std.proofs.Common.{◌≡◌, ◌∙◌, ◌+◌, [], ◌∷◌, ◌++◌, take, get_or, sym, ap}
use Rattle.std.proofs.lemmas.List.{take_all, take_more}
use Rattle.ot_race.specs.Siblings.{siblings_seen, seen_by_all}
use Rattle.ot_race.proofs.RowLemmas.{some_use, seen_more}
use Rattle.ot_race.proofs.siblings.Siblings.list.Goals as goal

pub loop-used-preserved : goal.loop-used-preserved
loop-used-preserved c =
    let s = c.args.self.now in
    let p = c.args.parent in
    let uses = c.args.uses.now in
    let i = c.loop-used.used-index in
    let used = get_or uses i some_use in
    let more : take (i + 1) uses ≡ take i uses ++ used ∷ [] = take_more uses i some_use c.loop-used-test.true in
    c.in_ok-list_one.ensures ∙ ap (λ l. l ++ siblings_seen s p used) c.loop-used.invariant ∙ sym (seen_more s p (take i uses) used) ∙ ap (seen_by_all s p) (sym more)

pub returns : goal.returns
returns c =
    c.loop-used.invariant ∙ ap (seen_by_all c.args.self.now c.args.parent) (take_all c.loop-used.used-index c.args.uses.now c.loop-used-test.false)
