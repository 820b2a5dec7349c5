use Rattle.std.proofs.Common.{◌≡◌, ◌++◌, flat_map, take}
use Rattle.ot_show_races.specs.Pictures.{link_text}
use Rattle.ot_show_races.proofs.drawing.put_links.Given as goal

abbrev pub invariant-loop-link : goal.invariant-loop-link
invariant-loop-link l = l.out.items ≡ l.fn.out.items ++ flat_map link_text (take l.link-index l.links)
