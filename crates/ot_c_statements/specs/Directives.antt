-- Directives, and which clauses each has (OpenMP API 5.2, chapters 10 and 12).
use Rattle.std.specs.Prelude.{ℕ, ◌==◌, Bool, true, false, not, ◌&&◌, ◌||◌, List, [], ◌∷◌, Option, Some, None, Result, Ok, Err, if◌then◌else◌}
use Rattle.std.specs.List.{list_any}
use Rattle.ot_c_words.specs.Reading.{◌>>=◌}
use Rattle.ot_c_words.specs.declared.known.Known.TheVariants as k
use Rattle.ot_c_words.specs.declared.word.Name.{Name}
use Rattle.ot_c_words.specs.declared.word.Name.TheVariants as n
use Rattle.ot_c_words.specs.declared.word.Word.{Word}
use Rattle.ot_c_expressions.specs.declared.tree.Role.{Role}
use Rattle.ot_c_expressions.specs.declared.tree.Role.TheVariants as r
use Rattle.ot_c_expressions.specs.Tree.{Claim}
use Rattle.ot_c_statements.specs.declared.fault.Fault.{Fault}
use Rattle.ot_c_statements.specs.declared.fault.Fault.TheVariants.{OtherClause}
use Rattle.ot_c_statements.specs.declared.directive.Directive.{Directive}
use Rattle.ot_c_statements.specs.declared.directive.Directive.TheVariants as d
use Rattle.ot_c_statements.specs.Reading.{clauses}

unfoldable pub directive_of : Name → Option Directive
directive_of (n.Known k.Task) = Some d.Task
directive_of (n.Known k.Taskwait) = Some d.Wait
directive_of (n.Known k.Taskgroup) = Some d.Group
directive_of (n.Known k.Taskyield) = Some d.Yield
directive_of (n.Known k.Parallel) = Some d.Parallel
directive_of _ = None

-- what may be said of a task: on which cells it depends, what it reduces, and what doesn't change what it does
abbrev pub fits_task : Role → Bool
fits_task r.In = true
fits_task r.Out = true
fits_task r.Inout = true
fits_task (r.Reduces op) = true
fits_task (r.Combines op) = false
fits_task r.Shared = true
fits_task r.Firstprivate = true
fits_task r.Default = false
fits_task r.DefaultNone = false
fits_task r.NumThreads = false
fits_task r.Priority = true
fits_task r.Untied = true
fits_task r.Mergeable = true

abbrev pub fits_wait : Role → Bool
fits_wait r.In = true
fits_wait r.Out = true
fits_wait r.Inout = true
fits_wait (r.Reduces op) = false
fits_wait (r.Combines op) = false
fits_wait r.Shared = false
fits_wait r.Firstprivate = false
fits_wait r.Default = false
fits_wait r.DefaultNone = false
fits_wait r.NumThreads = false
fits_wait r.Priority = false
fits_wait r.Untied = false
fits_wait r.Mergeable = false

abbrev pub fits_group : Role → Bool
fits_group r.In = false
fits_group r.Out = false
fits_group r.Inout = false
fits_group (r.Reduces op) = false
fits_group (r.Combines op) = true
fits_group r.Shared = false
fits_group r.Firstprivate = false
fits_group r.Default = false
fits_group r.DefaultNone = false
fits_group r.NumThreads = false
fits_group r.Priority = false
fits_group r.Untied = false
fits_group r.Mergeable = false

abbrev pub fits_parallel : Role → Bool
fits_parallel r.In = false
fits_parallel r.Out = false
fits_parallel r.Inout = false
fits_parallel (r.Reduces op) = false
fits_parallel (r.Combines op) = false
fits_parallel r.Shared = true
fits_parallel r.Firstprivate = false
fits_parallel r.Default = true
fits_parallel r.DefaultNone = true
fits_parallel r.NumThreads = true
fits_parallel r.Priority = false
fits_parallel r.Untied = false
fits_parallel r.Mergeable = false

-- whether a directive may have a clause that says this
abbrev pub fits : Directive → Role → Bool
fits d.Task role = fits_task role
fits d.Wait role = fits_wait role
fits d.Group role = fits_group role
fits d.Yield role = false
fits d.Parallel role = fits_parallel role

-- which of the clauses it is that a directive has once, or 0
abbrev pub once_of : Role → ℕ
once_of r.In = 0
once_of r.Out = 0
once_of r.Inout = 0
once_of (r.Reduces op) = 0
once_of (r.Combines op) = 0
once_of r.Shared = 0
once_of r.Firstprivate = 0
once_of r.Default = 1
once_of r.DefaultNone = 1
once_of r.NumThreads = 2
once_of r.Priority = 3
once_of r.Untied = 4
once_of r.Mergeable = 5

-- whether one of these clauses is that one
abbrev pub has : ℕ → List Claim → Bool
has once cs = list_any (λ c. once_of c.role == once) cs

-- whether a clause may stand before these
abbrev pub is_once : Role → List Claim → Bool
is_once role cs = (once_of role == 0) || not (has (once_of role) cs)

-- where the first clause stands that the directive may not have, or that stands again and may stand once
abbrev pub misfit : Directive → List Claim → Option ℕ
misfit d [] = None
misfit d (c ∷ cs) = if fits d c.role && is_once c.role cs then misfit d cs else Some c.left

abbrev pub unless_misfit : List Claim → List Word → Option ℕ → Result (List Claim × List Word) Fault
unless_misfit cs ws None = Ok (cs, ws)
unless_misfit cs ws (Some left) = Err (OtherClause left)

-- the clauses of a directive
unfoldable pub own_clauses : Directive → List Word → Result (List Claim × List Word) Fault
own_clauses d ws = clauses ws >>= λ x. unless_misfit x.0 x.1 (misfit d x.0)
