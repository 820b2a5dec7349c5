use Rattle.std.proofs.Common.{◌≡◌, map, take}
use Rattle.std.specs.Prelude.{option_map}
use Rattle.ot_parts.specs.Modes.{as_held}
use Rattle.ot_parts.proofs.holding.are_held_so.Given as goal

-- those that were passed are held so
abbrev pub invariant-loop-used : goal.invariant-loop-used
invariant-loop-used l = map (as_held (option_map (λ o. o.now) l.own)) (take l.used-index l.uses) ≡ take l.used-index l.uses
