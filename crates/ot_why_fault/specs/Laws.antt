-- What holds of the faults that are named.
use Rattle.std.specs.Prelude.{◌≡◌, ◌<◌, ◌^◌, ℕ, ◌++◌, map, Option, Some, None, option_map, Result, Ok, Err}
use Rattle.serde_json.specs.Data.{Data, array, no_items, item}
use Rattle.ot_model.specs.Programs.{Expanded, Arrays}
use Rattle.ot_program.specs.Copies.{Text, TaskText}
use Rattle.ot_program.specs.Faults.{text_faults}
use Rattle.ot_program.specs.Meanings.{Bindings, profile_of}
use Rattle.ot_program.specs.Programs.{program_of}
use Rattle.ot_program.specs.declared.fault.Refusal.{Refusal}
use Rattle.ot_why_fault.specs.Whys.{mixed_whys, first_why, refusal_of, text_whys}

-- a task's profile is one that a program's first word names
abbrev pub HasProfile : Text → Type 0
HasProfile (TaskText profile a b) = (word : Data) × (profile_of word ≡ Some profile)
HasProfile text = Unit {0}

-- The faults of a statement's own parts that are named are those for which a program is refused, one by one and in the same
-- order.
abbrev pub WhysAreFaults : Type 0
WhysAreFaults =
    (shape : Arrays) (level : ℕ) (variables : Bindings) (text : Text) → HasProfile text
    → map refusal_of (text_whys shape level variables text ++ mixed_whys shape variables text) ≡ text_faults shape level variables text

-- what a program is refused for
abbrev pub refusal_of_program : Result Expanded Refusal → Option Refusal
refusal_of_program (Ok program) = None
refusal_of_program (Err c) = Some c

-- What a program is refused for is what is told of its first fault; and what is accepted has none.
abbrev pub FirstIsRefused : Type 0
FirstIsRefused =
    (shape : Arrays) (run program : Data) → shape.tasks < 2 ^ 32
    → option_map (λ found. refusal_of found.1) (first_why shape (array (item run (item program no_items)))) ≡ refusal_of_program (program_of shape program)
