use Rattle.std.proofs.Common.{◌≡◌, ◌++◌, flat_map, take}
use Rattle.ot_show_races.specs.Pictures.{wait_text}
use Rattle.ot_show_races.proofs.drawing.put_waits.Given as goal

abbrev pub invariant-loop-wait : goal.invariant-loop-wait
invariant-loop-wait l = l.out.items ≡ l.fn.out.items ++ flat_map wait_text (take l.wait-index l.waits)
