-- What the program tells of a fault.
use Rattle.std.specs.Prelude.{ℕ, List, Option, None, map, string_bytes}
use Rattle.ot_serve.specs.Serving.{first_bad}
use Rattle.ot_serve.specs.declared.fault.Fault.{Fault}
use Rattle.ot_serve.specs.declared.fault.Fault.TheVariants as of
use Rattle.ot_sim.specs.declared.fault.SimFault.{SimFault}
use Rattle.ot_sim.specs.declared.fault.SimFault.TheVariants as sim
use Rattle.omptaskd.specs.declared.asked.Words.{Words}
use Rattle.omptaskd.specs.declared.asked.Words.TheVariants as asked

-- the fault where sim went wrong
abbrev pub sim_fault : SimFault → Fault
sim_fault sim.ReadFailed = of.ReadFailed
sim_fault sim.WriteFailed = of.WriteFailed
sim_fault sim.Memory = of.Memory
sim_fault sim.LongLine = of.LineTooLong
sim_fault sim.TooManyTurns = of.TooManyReads

-- the name of which a fault tells: the first that can't be a tenant's beside the others
abbrev pub name_at_fault : Words → Fault → Option (List ℕ)
name_at_fault (asked.Serve server) of.BadTenantName = first_bad (map string_bytes server.names.items)
name_at_fault words fault = None
