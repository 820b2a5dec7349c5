-- How far a walk to a statement came.
use Rattle.std.specs.Prelude.{◌≡◌, ℕ, Option, Some, None, option_map, Result, Ok, Err}
use Rattle.ot_model.specs.View.{stmt_of}
use Rattle.ot_c_judge.specs.Lacks as l
use Rattle.ot_c_judge.specs.declared.found.Stood.{Stood}

abbrev pub stood_by : Stood → l.Stood
stood_by at = l.stood_at (option_map (λ d. d.now) at.own) (stmt_of at.statement.now)

-- it came to what is found, or behind where nothing is
abbrev pub Follows : Option l.Stood → Result ℕ Stood → Type 0
Follows found (Ok next) = found ≡ None
Follows found (Err at) = found ≡ Some (stood_by at)
