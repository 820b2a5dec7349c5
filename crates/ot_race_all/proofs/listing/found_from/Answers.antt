use Rattle.std.proofs.Common.{◌≡◌, ◌+◌, ◌≤◌, length, sym, ap, subst, arith}
use Rattle.std.specs.Prelude.{if◌then◌else◌}
use Rattle.std.proofs.lemmas.List.{length-map}
use Rattle.ot_race.specs.View.{event_of, events_in}
use Rattle.ot_race_all.specs.AllRaces.{pairs_with, pairs_within}
use Rattle.ot_race_all.specs.Found.{IsFound, IsLeft}
use Rattle.ot_race_all.proofs.CountLemmas.{left_after, left_before}
use Rattle.ot_race_all.proofs.FoundLemmas.{found_first, none_before}
use Rattle.ot_race_all.proofs.TouchLemmas.{touches_none}
use Rattle.ot_race_all.proofs.listing.found_from.Goals.{then-start-number+in_ok-compare+else-not-branch+else-len-gt-RACES, else-start-number}
use Rattle.ot_race_all.proofs.listing.found_from.Goals as goal

pub loop-number-init : goal.loop-number-init
loop-number-init c =
    let es = events_in c.args.events.now in
    record {
      stands = c.in_ok-standings.ensures;
      touches = touches_none es c.new-touched.result.rows.items c.new-touched.ensures;
      counts = λ d. ap length (c.new-touched.ensures d);
      left = omega arith;
      found = found_first es c.in_ok-found.found c.args.first c.requires.first c.in_ok-found.ensures.all c.in_ok-found.ensures.pairs;
    }

pub loop-number-preserved : goal.loop-number-preserved
loop-number-preserved c =
    let es = events_in c.args.events.now in
    let n = c.loop-number.number in
    let first = c.args.first in
    record {
      stands = c.in_ok-take_in.ensures;
      touches = c.in_ok-keep.ensures.touches;
      counts = c.in_ok-keep.ensures.counts;
      left = elim c.if-start-number.branch [
        | then-start-number+in_ok-compare+else-not-branch+else-len-gt-RACES w ↦
            subst (λ left. 100000000 ≤ left + pairs_within es (n + 1)) (sym w.left-is)
            (left_after es n 100000000 c.loop-number.left w.compare.new.left c.loop-number.invariant.left
            (subst (IsLeft c.loop-number.left w.compare.new.left (pairs_with es n)) w.if-not-branch.false w.in_ok-compare.ensures.left))
        | else-start-number w ↦
            subst (λ left. 100000000 ≤ left + pairs_within es (n + 1)) (sym w.left-is)
            (left_before es n 100000000 c.loop-number.left c.loop-number.invariant.left)
      ];
      found = elim c.if-start-number.branch [
        | then-start-number+in_ok-compare+else-not-branch+else-len-gt-RACES w ↦ subst (IsFound es (n + 1)) (sym w.found-is)
            (subst (λ b. IsFound es (if b then n + 1 else n) w.compare.new.found) w.if-not-branch.false w.in_ok-compare.ensures.found)
        | else-start-number w ↦
            subst (IsFound es (n + 1)) (sym w.found-is)
            (none_before es n c.first_at-start.result first.place first.later first.cell c.loop-number.found c.requires.first c.first_at-start.ensures w.if-start-number.false
            c.loop-number.invariant.found)
      ];
    }

pub returns : goal.returns
returns c =
    let events = c.args.events.now in
    let n = c.loop-number.number in
    let low : n ≤ length events = c.loop-number.auto.number-end in
    let all : n ≡ length (events_in events) = omega (arith, low, c.loop-number-test.false, length-map events event_of) in
    (n, c.loop-number.invariant.found.races, all)
