use Rattle.std.proofs.Common.{◌≡◌, ◌-◌, ◌+◌, get_or, length, arith}
use Rattle.std.specs.Prelude.{Some, slice_get}
use Rattle.ot_race.proofs.PlaceLemmas.{place_there}
use Rattle.ot_race.proofs.StandingLemmas.{listed_step}
use Rattle.ot_race.proofs.standing.join_listed.Goals as goal

pub loop-passed-preserved : goal.loop-passed-preserved
loop-passed-preserved c =
    let tasks = c.args.tasks.now in
    let list = c.args.listed.now in
    let count = length list in
    let done = c.loop-passed.passed in
    let at = count - 1 - done in
    let task = get_or list at 0 in
    let there : slice_get list at ≡ Some task = place_there list at 0 (omega (arith, c.loop-passed-test.true)) in
    record {
      whole = c.in_ok-join_task.ensures.whole;
      joined = λ i.
          listed_step tasks list i at (count - done) (count - (done + 1)) task there (omega (arith, c.loop-passed-test.true)) (omega (arith, c.loop-passed-test.true))
          (c.loop-passed.invariant.joined i) (c.in_ok-join_task.ensures.joined i);
    }
