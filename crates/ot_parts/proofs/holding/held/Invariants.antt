use Rattle.std.proofs.Common.{◌≡◌, map, take}
use Rattle.std.specs.Prelude.{option_map}
use Rattle.ot_parts.specs.Modes.{as_held}
use Rattle.ot_parts.proofs.holding.held.Given as goal

-- those that were passed, as they are held
abbrev pub invariant-loop-used : goal.invariant-loop-used
invariant-loop-used l = l.held.items ≡ map (as_held (option_map (λ o. o.now) l.own)) (take l.used-index l.uses)
