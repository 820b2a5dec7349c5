use Rattle.std.proofs.Common.{◌≡◌, ◌+◌, ◌∙◌, ◌++◌, ◌∷◌, [], sym, ap, take}
use Rattle.std.proofs.lemmas.List.{take_more, map-append}
use Rattle.ot_owner.specs.Kept.{summed_of, summeds_of}
use Rattle.ot_owner.specs.Owning.{copies_in}
use Rattle.ot_owner.specs.Worth.{copies_combined, worth_over}
use Rattle.ot_owner.proofs.OpenLemmas.{worth-push}
use Rattle.ot_owner.proofs.groups.worth.Goals as goal

pub loop-group-preserved : goal.loop-group-preserved
loop-group-preserved c =
    let groups = c.args.groups.now in
    let i = c.loop-group.group-index in
    let group = c.group-item.result in
    let more : summeds_of (take (i + 1) groups) ≡ summeds_of (take i groups) ++ summed_of group ∷ [] =
    ap summeds_of (take_more groups i group c.loop-group-test.true) ∙ ap (λ g. summeds_of (take i groups ++ g ∷ [])) (sym c.group-item.is) ∙ map-append summed_of (take i groups) (group ∷ []) in
    c.worth-worth.ensures ∙ ap (λ s. copies_combined group.op s (copies_in c.args.cell (summed_of group))) c.loop-group.invariant
    ∙ sym (ap (λ gs. worth_over gs c.args.cell c.args.stored) more ∙ worth-push (summeds_of (take i groups)) (summed_of group) c.args.cell c.args.stored)
