use Rattle.std.proofs.Common.{◌≡◌, ◌-◌, List, [], length, sym, ◌∙◌, subst, arith}
use Rattle.std.proofs.Math.Seq.{take-nil}
use Rattle.ot_race.specs.Races.{TellsFirst}
use Rattle.ot_race.specs.View.{events_in}
use Rattle.ot_race.specs.declared.race.Race.{Race}
use Rattle.ot_race_all.proofs.FoundLemmas.{found_none}
use Rattle.ot_race_all.proofs.listing.all_races.Goals as goal

pub returns-in-None : goal.returns-in-None
returns-in-None c =
    let es = events_in c.args.events.now in
    let none : List Race = [] in
    let rest : 0 ≡ length none - c.args.most = omega arith in
    (none, c.new.ensures.items ∙ sym (take-nil c.args.most), (found_none es (subst (TellsFirst es) c.in-None.is c.in_ok-first.ensures), rest))
