use Rattle.std.proofs.Common.{◌≡◌, true, sym, subst}
use Rattle.std.specs.Prelude.{All}
use Rattle.std.proofs.lemmas.List.{take_all}
use Rattle.std.proofs.lemmas.List.Elements.{All-more}
use Rattle.ot_sets.specs.Sets.{has}
use Rattle.ot_race.proofs.history.missing.Goals as goal

pub loop-earlier-preserved : goal.loop-earlier-preserved
loop-earlier-preserved c =
    All-more (λ e. has c.args.known.now e ≡ true) c.args.events.now c.loop-earlier.earlier-index 0 c.loop-earlier-test.true c.loop-earlier.invariant
    (sym c.if-not-has.ensures)

pub returns : goal.returns
returns c = subst (All (λ e. has c.args.known.now e ≡ true)) (take_all c.loop-earlier.earlier-index c.args.events.now c.loop-earlier-test.false) c.loop-earlier.invariant
