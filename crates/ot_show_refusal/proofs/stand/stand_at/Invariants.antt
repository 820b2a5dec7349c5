use Rattle.std.proofs.Common.{◌≡◌, drop}
use Rattle.ot_show_refusal.specs.Stands.{standing_found}
use Rattle.ot_show_refusal.specs.StandView.{standings_of}
use Rattle.ot_show_refusal.proofs.stand.stand_at.Given as goal

-- it is looked for in what is left
abbrev pub invariant-loop-stand : goal.invariant-loop-stand
invariant-loop-stand l = standing_found l.place (standings_of (drop l.stand-index l.stands)) ≡ standing_found l.place (standings_of l.stands)
