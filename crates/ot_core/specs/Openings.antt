-- A world where nothing has happened yet.
use Rattle.std.specs.Prelude.{List, map, length, replicate, None, String, string_bytes}
use Rattle.std.specs.declared.alloc.Global.{Global}
use Rattle.ot_store.specs.Arrays.{Named}
use Rattle.ot_store.specs.declared.limits.Limits.{Limits}
use Rattle.ot_book.specs.Books.{new_register}
use Rattle.ot_core.specs.Accounts.{Account, new_account}
use Rattle.ot_hall.specs.Floors.{new_floor}
use Rattle.ot_core.specs.Scenes.{Scene}

-- a tenant with this name, these limits and these arrays
abbrev pub opening_of : String Global × Limits × List Named → Account
opening_of o = new_account (new_register (string_bytes o.0) o.1 o.2)

-- no line is asked, nobody has a job, no piece is out, and no unit was settled
abbrev pub new_scene : List (String Global × Limits × List Named) → Scene
new_scene openings = record { accounts = map opening_of openings; floor = new_floor (length openings); hands = replicate 16 None }
