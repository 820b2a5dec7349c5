-- What a file says, apart from memory.
use Rattle.std.specs.Prelude.{ℕ, Bool, List, map, Option}
use Rattle.ot_c_words.specs.declared.word.IntegerType.{IntegerType}
use Rattle.ot_c_words.specs.declared.word.Name.{Name}
use Rattle.ot_c_expressions.specs.Tree.{E, Claim, expr_of, clauses_of}
use Rattle.ot_c_files.specs.declared.program.Initial.{Initial}
use Rattle.ot_c_files.specs.declared.program.Initial.TheVariants as i
use Rattle.ot_c_files.specs.declared.program.Variable.{Variable}
use Rattle.ot_c_files.specs.declared.program.Declaration.{Declaration}
use Rattle.ot_c_files.specs.declared.program.Top.{Top}
use Rattle.ot_c_files.specs.declared.program.Top.TheVariants as t
use Rattle.ot_c_files.specs.declared.program.Step.{Step}
use Rattle.ot_c_files.specs.declared.program.Step.TheVariants as s
use Rattle.ot_c_files.specs.declared.program.File.{File}
use Rattle.ot_c_statements.specs.Tree.{S, Body, body_of, exprs_of, index_of, list_of, stmt_of}

-- what a variable begins with: nothing, a value, or an array's first values
pub data Start : Type 0 where
  Unset : Start
  One : E → Start
  Many : List E → Start

abbrev pub initial_of : Initial → Start
initial_of i.Nothing = Unset
initial_of (i.Value e) = One (expr_of e)
initial_of (i.Values es) = Many (exprs_of es.items)

-- a variable, or an array where it has a length, with the number of words that are left where its name stands
pub record Cells : Type 0 where
  pub left : ℕ
  pub name : Name
  pub length : Option E
  pub initial : Start

abbrev pub variable_of : Variable → Cells
variable_of v = record { left = v.left; name = v.name; length = index_of v.length; initial = initial_of v.initial }

abbrev pub variables_of : List Variable → List Cells
variables_of vs = map variable_of vs

-- variables of a type
pub record Declared : Type 0 where
  pub stays : Bool
  pub kind : IntegerType
  pub variables : List Cells

abbrev pub declaration_of : Declaration → Declared
declaration_of d = record { stays = d.stays; kind = d.kind; variables = variables_of d.variables.items }

-- what stands before `main`
pub data Entry : Type 0 where
  Constant : ℕ → ℕ → E → Entry
  Global : Declared → Entry
  Function : ℕ → Name → Body → Entry

abbrev pub top_of : Top → Entry
top_of (t.Constant left n e) = Constant left n (expr_of e)
top_of (t.Declares d) = Global (declaration_of d)
top_of (t.Function left f b) = Function left f (body_of (list_of b.items))

abbrev pub tops_of : List Top → List Entry
tops_of ts = map top_of ts

-- what `main` does
pub data Act : Type 0 where
  Local : Declared → Act
  Region : ℕ → List Claim → Body → Act
  Does : S → Act

abbrev pub step_of : Step → Act
step_of (s.Declares d) = Local (declaration_of d)
step_of (s.Region left cs b) = Region left (clauses_of cs.items) (body_of (list_of b.items))
step_of (s.Does s) = Does (stmt_of s)

abbrev pub main_of : List Step → List Act
main_of ss = map step_of ss

-- what stands before `main`, and what that does
pub record Whole : Type 0 where
  pub tops : List Entry
  pub main : List Act

abbrev pub file_of : File → Whole
file_of f = record { tops = tops_of f.tops.items; main = main_of f.main.items }
