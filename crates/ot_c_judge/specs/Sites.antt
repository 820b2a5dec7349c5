-- Where in a C text its statements stand.
use Rattle.std.specs.Prelude.{ℕ, List, [], Option, Some, None, option_map, unwrap_or}
use Rattle.serde_json.specs.Data.{Data}
use Rattle.ot_race_order.specs.declared.order.Order.{Order}
use Rattle.ot_file_diagnosis.specs.Diagnoses.{place_in}
use Rattle.ot_file_diagnosis.specs.declared.diagnosis.Place.{Place}
use Rattle.ot_program.specs.Meanings.{Bindings}
use Rattle.ot_why_place.specs.Spots.{Path, place_at, statements_of, item_numbered}
use Rattle.ot_c_judge.specs.TextOrder.{told_of}

-- A C text, its name, and what stands for it: a request that runs a program over arrays with these names and lengths. For each
-- statement of the program, in the order of its text, the byte is told at which the C statement begins. And what orders the
-- program's tasks as C orders those of the text.
pub record Source : Type 0 where
  pub name : List ℕ
  pub text : List ℕ
  pub request : Data
  pub arrays : List (List ℕ × ℕ)
  pub bytes : List ℕ
  pub order : Order

-- a place in the text, and the turns of the loops around it, the innermost first
pub record Site : Type 0 where
  pub place : Place
  pub turns : Bindings

abbrev pub site_at : Source → Option (Path × Bindings) → Site
site_at s None = record { place = place_in s.text 0; turns = [] }
site_at s (Some place) = record { place = place_in s.text (unwrap_or (told_of s.bytes s.request place.0) 0); turns = place.1 }

-- that of the C statement that stands for the statement of this number
abbrev pub site_of : Source → ℕ → Site
site_of s number = site_at s (option_map place_at (item_numbered number (statements_of s.request)))
