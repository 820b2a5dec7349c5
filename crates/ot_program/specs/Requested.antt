-- The program that a request runs, and the parts of a program, before they are read.
use Rattle.std.specs.Prelude.{Option, Some, None, option_map}
use Rattle.serde_json.specs.Data.{Data, array, no_items, item}
use Rattle.serde_json.specs.View.{view}
use Rattle.ot_program.specs.Meanings.{profile_of}
use Rattle.ot_program.specs.declared.form.ProgramForm as coded
use Rattle.ot_program.specs.declared.profile.Profile.{Profile}

-- the second of a request's two items
abbrev pub requested_program : Data → Option Data
requested_program (array (item t (item program no_items))) = Some program
requested_program _ = None

-- a program as it is written, of the profile that its first word names
pub record ProgramForm : Type 0 where
  pub profile : Profile
  pub shows : Data
  pub body : Data

abbrev pub form : Data → Data → Profile → ProgramForm
form shows body profile = record { profile = profile; shows = shows; body = body }

-- `["program", [section, ..], body]` and `["program2", [section, ..], body]`
abbrev pub program_form : Data → Option ProgramForm
program_form (array (item t (item shows (item body no_items)))) = option_map (form shows body) (profile_of t)
program_form _ = None

-- what the code's value stands for
abbrev pub form_by : coded.ProgramForm → ProgramForm
form_by f = form (view f.shows.now) (view f.body.now) f.profile
