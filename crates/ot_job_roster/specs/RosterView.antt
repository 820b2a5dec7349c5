-- A roster as its callers see it.
use Rattle.std.specs.Prelude.{map, vec_capacity}
use Rattle.ot_job_roster.specs.Members.{Kept}
use Rattle.ot_job_roster.specs.declared.roster.Roster.TheInside.{Inside}

abbrev pub kept_of : Inside → Kept
kept_of r = record {
  numbers = map (λ v. v.items) r.children.items;
  listed = r.free.listed;
  out = r.out;
  unended = r.unended;
  room = r.free.room;
  places = vec_capacity r.children;
  rooms = map vec_capacity r.children.items;
}
