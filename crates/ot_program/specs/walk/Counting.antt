-- The counts of a program, and their limits.
use Rattle.ot_model.specs.Tree.{E}
use Rattle.ot_program.specs.Limits.{max_nesting, max_statements, max_turns, max_nodes, max_cells, nodes_of, picked_of}
use Rattle.ot_program.specs.declared.counts.Counts.{Counts}
use Rattle.ot_program.specs.declared.fault.Refusal.TheVariants.{TooLarge, TooManyTasks}
use Rattle.ot_program.specs.declared.fault.Refusal.{Refusal}
use Rattle.std.specs.Prelude.{ℕ, Result, Ok, Err, if◌then◌else◌, ◌+◌, nat_lt, nat_le, ◌&&◌, ⊤}

abbrev pub no_counts : Counts
no_counts = record { statements = 0; tasks = 0; turns = 0; nodes = 0; cells = 0 }

-- so many statements, nodes of values and cells of sections more
abbrev pub more_counts : Counts → ℕ → ℕ → ℕ → Counts
more_counts n statements nodes cells =
    record n { statements = n.statements + statements; nodes = n.nodes + nodes; cells = n.cells + cells }

-- the counts, where none passes its limit
abbrev pub within_limits : Counts → Result Counts Refusal
within_limits n =
    if nat_le n.statements max_statements && nat_le n.nodes max_nodes && nat_le n.cells max_cells then Ok n else Err TooLarge

-- one statement more that has this value
abbrev pub with_expression : Counts → E → Result Counts Refusal
with_expression n e = within_limits (more_counts n 1 (nodes_of e) (picked_of e))

-- one turn of a `for` more, which counts when it begins
abbrev pub one_turn : Counts → Result Counts Refusal
one_turn n = if nat_lt n.turns max_turns then Ok (record n { turns = n.turns + 1 }) else Err TooLarge

-- one task statement more
abbrev pub one_task : ℕ → Counts → Result Counts Refusal
one_task limit n = if nat_lt n.tasks limit then Ok (record n { tasks = n.tasks + 1 }) else Err TooManyTasks

-- the body of a statement lies one level deeper than the statement
abbrev pub deeper : ℕ → Result ⊤ Refusal
deeper level = if nat_lt level max_nesting then Ok tt else Err TooLarge
