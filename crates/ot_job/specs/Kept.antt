-- What is kept at every moment.
use Rattle.std.specs.Prelude.{◌≡◌}
use Rattle.ot_model.specs.Serial.{serial_run, state_of}
use Rattle.ot_owner.specs.Worth.{worths}
use Rattle.ot_job.specs.Numbered.{left_of}
use Rattle.ot_job.specs.Dealings.{Live}
use Rattle.ot_job.specs.Whole.{wholes}
use Rattle.ot_job.specs.declared.state.State.{State}
use Rattle.ot_job.specs.declared.state.State.TheVariants.{Working, Ended}

-- what is left of the job, run serially from what its cells are worth, gives the serial meaning of its program
abbrev pub KeepsMeaning : Live → Type 0
KeepsMeaning j = left_of (wholes j.regions) (state_of (worths j.owned j.cells) j.counts) ≡ serial_run j.program.body j.before

-- a job that is going well, or has ended
abbrev pub IsKeptIn : State → Live → Type 0
IsKeptIn Working j = KeepsMeaning j
IsKeptIn Ended j = KeepsMeaning j
IsKeptIn state j = Unit {0}
