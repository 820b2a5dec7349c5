-- Whether an outline is a program, and which.
use Rattle.std.specs.Prelude.{◌≡◌, ◌<◌, List, Some, None}
use Rattle.ot_model.specs.Tree as tree
use Rattle.ot_model.specs.Programs.{Expanded}
use Rattle.ot_model.specs.declared.expr.Section.{Section}
use Rattle.ot_exec_outline.specs.Tree.{Steps, body_of_steps, no_form}
use Rattle.ot_exec_outline.specs.declared.program.NoProgram.{NoProgram}
use Rattle.ot_exec_outline.specs.declared.program.NoProgram.TheVariants.{Memory, NoForm, TooLarge}

-- the program of steps that shows these
abbrev pub expansion : List Section → Steps → Expanded
expansion shows steps =
    record { shows = shows; body = body_of_steps steps; statements = tree.size (body_of_steps steps); tasks = tree.tasks_in (body_of_steps steps) }

-- why steps are no program
abbrev pub TellsNoProgram : NoProgram → Steps → Type 0
TellsNoProgram Memory steps = Unit {0}
TellsNoProgram (NoForm site) steps = no_form steps ≡ Some site
TellsNoProgram TooLarge steps = (no_form steps ≡ None) × (20000 < tree.size (body_of_steps steps))

-- steps are a program only where each has a form in the language
pub record IsProgram (shows : List Section) (steps : Steps) (p : Expanded) : Type 0 where
  pub plain : no_form steps ≡ None
  pub is : p ≡ expansion shows steps
