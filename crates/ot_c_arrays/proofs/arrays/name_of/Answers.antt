use Rattle.std.proofs.Common.{sym}
use Rattle.ot_c_arrays.proofs.arrays.name_of.Goals as goal

pub returns-in-Some : goal.returns-in-Some
returns-in-Some c = rw (← c.in-Some.ensures.key, sym c.as_str.ensures.value, sym c.own_name.ensures) c.new_name.ensures
