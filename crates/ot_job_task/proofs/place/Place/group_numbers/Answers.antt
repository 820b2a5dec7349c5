use Rattle.std.proofs.Common.{◌≡◌, ◌∙◌, ap, sym, arith, map, reverse}
use Rattle.std.proofs.lemmas.Grind.{common_steps}
use Rattle.std.proofs.lemmas.Simd.{map-map}
use Rattle.ot_job_task.specs.RegionView.{open_of}
use Rattle.ot_job_task.proofs.GroupLemmas.{map-reverse}
use Rattle.ot_job_task.proofs.place.Place.group_numbers.Goals as goal

pub returns : goal.returns
returns c =
    let items = c.args.self.now.groups.items in
    let all : c.loop-group.numbers.items ≡ map (λ g. g.group) items = grind (arith, common_steps) in
    c.reverse.ensures.items ∙ ap reverse (all ∙ sym (map-map (λ o. o.group) open_of items)) ∙ sym (map-reverse (λ o. o.group) (map open_of items))
