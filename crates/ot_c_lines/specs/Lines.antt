-- Statements of the language, and where they stand in the text.
use Rattle.std.specs.Prelude.{ℕ, ◌+◌, nat_lt, List, [], ◌∷◌, ◌++◌, length, map, slice_get, unwrap_or, Result, Ok, Err, if◌then◌else◌}
use Rattle.serde_json.specs.Data.{Data}
use Rattle.serde_json.specs.View.{view}
use Rattle.ot_c_scope.specs.declared.reason.Reason.TheVariants as why
use Rattle.ot_c_scope.specs.Results.{Refusal}
use Rattle.ot_c_clauses.specs.declared.own.Taking.{Taking}
use Rattle.ot_c_lines.specs.declared.lines.Lines.{Lines}

-- how a task takes part in a reduction, and how many words are left where it begins
abbrev pub Took : Type 0
Took = ℕ × Taking

-- statements, and how many words are left where each of them and of those in their bodies begins, a statement before those in
-- its bodies; and in the same order how the tasks among them take part in reductions, one by one
pub record L : Type 0 where
  pub texts : List Data
  pub places : List ℕ
  pub taking : List Took

abbrev pub lines_of : Lines → L
lines_of l = record { texts = map view l.statements.items; places = l.places.items; taking = l.taking.items }

abbrev pub none : L
none = record { texts = []; places = []; taking = [] }

-- a statement that begins there, and has those that begin at these places in its bodies
abbrev pub one_statement : ℕ → Data → List ℕ → L
one_statement at d within = record { texts = d ∷ []; places = at ∷ within; taking = [] }

-- the same, of which tasks take part in reductions so
abbrev pub one_with : ℕ → Data → List ℕ → List Took → L
one_with at d within taking = record { texts = d ∷ []; places = at ∷ within; taking = taking }

abbrev pub Lowered : Type 0
Lowered = Result L Refusal

-- where the first of some statements begins
abbrev pub first_place : L → ℕ
first_place l = unwrap_or (slice_get l.places 0) 0

-- the second behind the first, unless there are too many
abbrev pub both_lines : L → L → Lowered
both_lines a b =
    if nat_lt 20000 (length a.places + length b.places) then Err (first_place b, why.TooMany)
    else Ok (record { texts = a.texts ++ b.texts; places = a.places ++ b.places; taking = a.taking ++ b.taking })
