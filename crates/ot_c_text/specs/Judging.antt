-- What is told of a text in C.
use Rattle.std.specs.Prelude.{◌≡◌, ℕ, List, map, None, Ok, Err}
use Rattle.serde_json.specs.View.{view}
use Rattle.ot_race_order.specs.declared.order.Order.{Order}
use Rattle.ot_race_order.specs.declared.order.Order.TheVariants.{OfC, OfCByPointers}
use Rattle.ot_c_judge.specs.Reports.{Reports, Told}
use Rattle.ot_c_judge.specs.declared.c_program.CProgram.{CProgram}
use Rattle.ot_c_arrays.specs.Arrays.{c_array}
use Rattle.ot_c_program.specs.Files.{Program}
use Rattle.ot_c_program.specs.declared.lowered.Reductions.{Reductions}
use Rattle.ot_c_program.specs.declared.lowered.Reductions.TheVariants as r
use Rattle.ot_c_text.specs.Reading.{Meant, Means}

-- this program is judged, where this orders its tasks
pub record IsJudged (by : Order) (p : Program) (l : CProgram) : Type 0 where
  pub arrays : map c_array l.arrays.items ≡ p.arrays
  pub program : view l.program ≡ p.program
  pub places : l.places.items ≡ p.places
  pub order : l.order ≡ by

abbrev pub JudgesBy : Order → List ℕ → List ℕ → Program → Told → Type 0
JudgesBy order name text program told = (l : CProgram) × IsJudged order program l × Reports name text l told

-- Of a program whose tasks take part in reductions so. By names that makes no dependence in C, where `red` makes one in the language.
-- By pointers there is the one of `depend(in: ..)`, which `red` stands for. By both a fold is into the task's copy. Where some do so and
-- some so neither order is C's, and nothing is told.
abbrev pub JudgesProgram : List ℕ → List ℕ → Program → Reductions → Told → Type 0
JudgesProgram name text program r.ByNames told = JudgesBy OfC name text program told
JudgesProgram name text program r.ByPointers told = JudgesBy OfCByPointers name text program told
JudgesProgram name text program (r.Mixed byte) told = told ≡ None

-- of what a text of this name means; nothing where it means no program
abbrev pub JudgesMeant : List ℕ → List ℕ → Meant → Told → Type 0
JudgesMeant name text (Ok program) told = JudgesProgram name text program program.reductions told
JudgesMeant name text (Err fault) told = told ≡ None

-- of a text of this name
abbrev pub Judges : List ℕ → List ℕ → Told → Type 0
Judges name text told = (meant : Meant) × Means text meant × JudgesMeant name text meant told
