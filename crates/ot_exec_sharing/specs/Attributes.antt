-- What a variable that was declared outside is in a construct (OpenMP API 5.2, section 5.1.1).
use Rattle.std.specs.Prelude.{true, false, ◌||◌, if◌then◌else◌, Option, Some, None}
use Rattle.ot_exec_tree.specs.declared.clause.Default.{Default}
use Rattle.ot_exec_tree.specs.declared.clause.Default.TheVariants as by
use Rattle.ot_exec_sharing.specs.declared.attribute.Around.{Around}
use Rattle.ot_exec_sharing.specs.declared.attribute.How.{How}
use Rattle.ot_exec_sharing.specs.declared.attribute.How.TheVariants.{Shared, Private, Firstprivate, Lastprivate, Both, Own}
use Rattle.ot_exec_sharing.specs.declared.attribute.Region.{Region}
use Rattle.ot_exec_sharing.specs.declared.attribute.Region.TheVariants.{Team, Task, Unit, Other}

-- by a `default` clause; by none the construct wants a clause that names it
abbrev pub by_default : Default → Option How
by_default by.Shared = Some Shared
by_default by.None = None
by_default by.Private = Some Private
by_default by.Firstprivate = Some Firstprivate

-- without a clause: a task has a copy of what isn't shared all around it, what a thread has alone is its own in the work that it shares, and what
-- executes its own body has the variable itself
abbrev pub implicit : Region → Option Default → Around → Option How
implicit Other default around = Some Shared
implicit Team None around = Some Shared
implicit Team (Some default) around = by_default default
implicit Task None around = Some (if around.is_static || around.is_shared then Shared else Firstprivate)
implicit Task (Some default) around = by_default default
implicit Unit default around = Some (if around.is_static || around.is_shared then Shared else Own)

-- the clause that names it comes first
abbrev pub attribute_of : Region → Option How → Option Default → Around → Option How
attribute_of region (Some how) default around = Some how
attribute_of region None default around = implicit region default around

-- a copy is neither static nor shared; a parallel region shares it with its whole team
abbrev pub within : Region → How → Around → Around
within region Private around = record { is_static = false; is_shared = false }
within region Firstprivate around = record { is_static = false; is_shared = false }
within region Lastprivate around = record { is_static = false; is_shared = false }
within region Both around = record { is_static = false; is_shared = false }
within Team how around = record { is_static = around.is_static; is_shared = true }
within region how around = around
