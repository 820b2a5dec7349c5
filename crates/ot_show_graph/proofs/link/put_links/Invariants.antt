use Rattle.std.proofs.Common.{◌≡◌, ◌++◌, map, take}
use Rattle.ot_show_graph.specs.Written.{link_from}
use Rattle.ot_show_graph.proofs.link.put_links.Given as goal

abbrev pub invariant-loop-later : goal.invariant-loop-later
invariant-loop-later l = l.links.items ≡ l.initial.links.items ++ map (link_from l.earlier) (take l.later-index l.waiters)
