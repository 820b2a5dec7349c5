-- What the fields of a hall stand for: the total is the sum of the tenants' units, and the marks are of those with a claimable task.
use Rattle.std.specs.Prelude.{◌≡◌, ◌<◌, ◌^◌, length, map}
use Rattle.ot_hall.specs.Floors.{has_claimable, Floor, total_of}
use Rattle.ot_hall.specs.declared.hall.Hall.TheInside.{Inside}

abbrev pub floor_of : Inside → Floor
floor_of h = record { jobs = h.jobs; units = h.units.items }

pub record IsHall (h : Inside) : Type 0 where
  pub total : h.total ≡ total_of (floor_of h)
  pub marks : h.marks ≡ map has_claimable h.jobs
  pub as_many : length h.units.items ≡ length h.jobs
  pub few : length h.jobs < 2 ^ 32
