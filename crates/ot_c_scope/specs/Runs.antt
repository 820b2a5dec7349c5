-- Which cells an index may name.
use Rattle.std.specs.Prelude.{ℕ, Option, Some, None, Result, Ok, Err, if◌then◌else◌}
use Rattle.ot_c_words.specs.declared.word.IntegerType.TheVariants.{Int}
use Rattle.ot_c_words.specs.declared.word.Name.{Name}
use Rattle.ot_c_expressions.specs.declared.sign.Sign.TheVariants as o
use Rattle.ot_c_expressions.specs.Tree.{E, Apply}
use Rattle.ot_c_scope.specs.declared.reason.Reason.TheVariants as why
use Rattle.ot_c_scope.specs.Constants.{Typed, constant}
use Rattle.ot_c_scope.specs.Results.{Refusal}
use Rattle.ot_c_scope.specs.Scopes.{Around, Run, is_pointed}

-- so many cells from a place on, where both are known
abbrev pub run_by : Option Typed → Option Typed → Run
run_by None count = None
run_by (Some first) None = None
run_by (Some first) (Some count) = Some (first.0, count.0)

abbrev pub one_cell : Option Typed → Run
one_cell first = run_by first (Some (1, Int))

-- which cells of an array an index may name: one, or those of which one is picked
unfoldable pub index_run : Around → E → Run
index_run a (Apply l o.Rest chosen count) = run_by (Some (0, Int)) (constant a count)
index_run a (Apply l o.Plus first (Apply m o.Rest chosen count)) = run_by (constant a first) (constant a count)
index_run a i = one_cell (constant a i)

-- no open group combines, by a pointer, over a cell of an array that an index may name
abbrev pub is_run_untouched : Around → ℕ → Name → E → Result (Unit {0}) Refusal
is_run_untouched a at x i = if is_pointed a x (index_run a i) then Err (at, why.Combined) else Ok tt
