-- Laws of outlines.
use Rattle.std.specs.Prelude.{◌≡◌, ℕ, Bool, List, None}
use Rattle.ot_model.specs.Tree.{Body}
use Rattle.ot_race.specs.Events as runs
use Rattle.ot_exec_outline.specs.Tree.{Steps, outline, body_of_steps, no_form}
use Rattle.ot_exec_outline.specs.Happens.{happens_of, way_as}
use Rattle.ot_exec_outline.specs.Followed.{by_answers, events_by}

-- on each way the events of a program's outline are those of the program
abbrev pub OutlineHappens : Type 0
OutlineHappens = (way : runs.Way) (chosen : ℕ → ℕ) (body : Body) (cells : List (List ℕ)) →
    happens_of (way_as way chosen) (outline 1 body) cells ≡ runs.events_of way body cells

-- each step of a program's outline has a form in the language, and its program is that program
abbrev pub OutlineIsPlain : Type 0
OutlineIsPlain = (k : ℕ) (body : Body) → no_form (outline k body) ≡ None

abbrev pub OutlineIsSame : Type 0
OutlineIsSame = (k : ℕ) (body : Body) → body_of_steps (outline k body) ≡ body

-- what happens on the way of some answers is told without the cells that it begins with
abbrev pub AnswersAreAWay : Type 0
AnswersAreAWay = (answers : ℕ → Bool) (steps : Steps) (cells : List (List ℕ)) → events_by answers steps ≡ happens_of (by_answers answers) steps cells
