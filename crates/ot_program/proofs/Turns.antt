-- A loop over the turns of a `for` has read a front of what there is to read.
use Rattle.std.proofs.Common.{◌≡◌, ℕ, suc, ◌+◌, ◌-◌, ◌<◌, ◌≤◌, List, refl, arith}
use Rattle.ot_model.specs.Tree.{S}
use Rattle.ot_program.specs.declared.counts.Counts.{Counts}
use Rattle.ot_program.specs.declared.fault.ProgramFault.{ProgramFault}
use Rattle.ot_program.specs.walk.Statements.{Read, Reader, one_then, turn, turns}
use Rattle.ot_program.specs.Returned.{Fails}
use Rattle.ot_program.specs.walk.Returned.{Added}
use Rattle.ot_program.proofs.Fronts.{Front, front_none, front_more, front_fails, front_all}

turns-next : (body : ℕ → Reader) (k behind : ℕ) (n : Counts) → k < behind
    → turns body k (behind - k) n ≡ one_then (turn (body k)) (turns body (k + 1) (behind - (k + 1))) n
turns-next body k behind n below =
    let left : behind - k ≡ suc (behind - (k + 1)) = omega arith in
    let next : k + 1 ≡ suc k = omega arith in
    rw (left, next) refl

pub turns_step : (old now next : List S) (body : ℕ → Reader) (k behind : ℕ) (n m : Counts) (whole : Read)
    → k < behind → Front old now (turns body k (behind - k) n) whole
    → Added now next m (turn (body k) n) → Front old next (turns body (k + 1) (behind - (k + 1)) m) whole
turns_step old now next body k behind n m whole below h a =
    front_more old now next (turn (body k)) (turns body (k + 1) (behind - (k + 1))) n m whole
    (rw (turns-next body k behind n below) at h) a

pub turns_fail : (old now : List S) (body : ℕ → Reader) (k behind : ℕ) (n : Counts) (whole : Read) (e : ProgramFault)
    → k < behind → Front old now (turns body k (behind - k) n) whole
    → Fails e (turn (body k) n) → Fails e whole
turns_fail old now body k behind n whole e below h f =
    front_fails old now (turn (body k)) (turns body (k + 1) (behind - (k + 1))) n whole e
    (rw (turns-next body k behind n below) at h) f

pub turns_end : (old now : List S) (body : ℕ → Reader) (k behind : ℕ) (n : Counts) (whole : Read)
    → behind ≤ k → Front old now (turns body k (behind - k) n) whole → Added old now n whole
turns_end old now body k behind n whole past h =
    let left : behind - k ≡ 0 = omega arith in
    front_all old now n whole (rw left at h)

pub ruleset turns_taken = (front_none, turns_step, turns_fail, turns_end)
