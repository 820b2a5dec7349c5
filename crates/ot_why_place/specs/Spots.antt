-- Where each statement of a program stands in the request's line, and in which turns of the loops around it.
use Rattle.std.specs.Prelude.{ℕ, [], zero, suc, ◌+◌, Bool, true, false, if◌then◌else◌, List, ◌∷◌, ◌++◌, filter, slice_get, Option, Some, None, option_map, option_and_then, unwrap_or, map}
use Rattle.serde_json.specs.Data.{Data}
use Rattle.ot_program.specs.Copies.{Text, ForText, Turn, GroupByText, ProgramText, NoForm, Placed, Copy, At, Copies, Done, Then}
use Rattle.ot_program.specs.Meanings.{items, Bindings}
use Rattle.ot_program.specs.Programs.{program_copy}
use Rattle.ot_program.specs.Requested.{ProgramForm, program_form, requested_program}
use Rattle.ot_why_place.specs.declared.trail.Trail.{Trail}
use Rattle.ot_why_place.specs.declared.trail.Trail.TheVariants as t
use Rattle.ot_why_place.specs.declared.trail.Turn as turns
use Rattle.ot_why_place.specs.declared.trail.Place.{Place}

-- Indices into lists, from the outermost on and from 0: 1 ∷ 2 ∷ [] is the third item of the second.
abbrev pub Path : Type 0
Path = List ℕ

pub record Spot : Type 0 where
  pub path : Path
  pub placed : Placed

abbrev pub spot : Path → Placed → Spot
spot path placed = record { path = path; placed = placed }

-- which of a statement's items its first body is; a turn has the loop's
abbrev pub first_body : Text → ℕ
first_body (GroupByText op sections body) = 3
first_body Turn = 4
first_body text = 2

abbrev pub is_loop : Text → Bool
is_loop (ForText variable first behind body) = true
is_loop text = false

abbrev mutual
  -- a statement, then those in its bodies; in the place of a loop's first body are its turns
  pub spots : Path → Copy → List Spot
  spots path (At p one two) =
      spot path p
      ∷ ((if is_loop p.text then in_turns path one else in_body (path ++ first_body p.text ∷ []) 0 one) ++ in_body (path ++ 3 ∷ []) 0 two)

  -- a turn stands where its loop does
  pub in_turns : Path → Copies → List Spot
  in_turns path Done = []
  in_turns path (Then turn rest) = spots path turn ++ in_turns path rest

  -- the statements of a body from this item on
  pub in_body : Path → ℕ → Copies → List Spot
  in_body path index Done = []
  in_body path index (Then c rest) = spots (path ++ index ∷ []) c ++ in_body path (index + 1) rest

-- a program as the second item of a request
abbrev pub program_spots : ProgramForm → List Spot
program_spots f = spots (1 ∷ []) (program_copy f.profile f.shows f.body)

abbrev pub text_spots : Data → List Spot
text_spots program = unwrap_or (option_map program_spots (program_form program)) []

abbrev pub spots_of : Data → List Spot
spots_of request = unwrap_or (option_map text_spots (requested_program request)) []

-- what stands at a path
abbrev pub value_at : Data → Path → Option Data
value_at d [] = Some d
value_at d (index ∷ path) = option_and_then (λ item. value_at item path) (slice_get (items d) index)

-- ---- which of them replies count

-- what is a statement of the expanded program
abbrev pub is_statement : Text → Bool
is_statement (ForText variable first behind body) = false
is_statement Turn = false
is_statement (ProgramText shows body) = false
is_statement NoForm = false
is_statement text = true

abbrev pub statements_of : Data → List Spot
statements_of request = filter (λ s. is_statement s.placed.text) (spots_of request)

-- counted from 1
abbrev pub item_numbered : {A : Type 0} → ℕ → List A → Option A
item_numbered zero list = None
item_numbered (suc n) list = slice_get list n

-- the path, and the variables with their numbers, the innermost first
abbrev pub place_at : Spot → Path × Bindings
place_at s = (s.path, s.placed.variables)

-- ---- what the code's values stand for

abbrev pub turn_by : turns.Turn → List ℕ × ℕ
turn_by turn = (turn.name.now, turn.number)

abbrev pub path_of : Trail → Path
path_of t.Root = []
path_of (t.Item' index p outer) = path_of outer ++ index ∷ []
path_of (t.Turn' turn p outer) = path_of outer

abbrev pub trail_bindings : Trail → Bindings
trail_bindings t.Root = []
trail_bindings (t.Item' index p outer) = trail_bindings outer
trail_bindings (t.Turn' turn p outer) = turn_by turn ∷ trail_bindings outer

abbrev pub place_by : Place → Path × Bindings
place_by place = (place.path.items, map turn_by place.turns.items)
