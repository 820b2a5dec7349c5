-- A walk from entry to entry, with what statements and values count on it.
use Rattle.std.specs.Prelude.{ℕ, [], ◌+◌, List, ◌∷◌, ◌++◌, Option, Some, None, option_map}
use Rattle.ot_model.specs.Programs.{Arrays}
use Rattle.ot_program.specs.Copies.{Text, Placed, in_order}
use Rattle.ot_program.specs.Limits.{own_tally, depth_of, nodes_of, picked_of}
use Rattle.ot_program.specs.Meanings.{Bindings}
use Rattle.ot_program.specs.declared.profile.Profile.{Profile}
use Rattle.ot_why_place.specs.Texts.{first_copies, second_copies}
use Rattle.ot_why_fault.specs.Whys.{why_by, shape_of, Why, short, after, long, counts_of, whys_at}
use Rattle.ot_why_fault.specs.declared.find.Finder.{Finder}
use Rattle.ot_why_fault.specs.declared.find.Passed.{Passed as CodePassed}
use Rattle.ot_why_fault.specs.declared.find.Step.{Step}
use Rattle.ot_why_fault.specs.declared.find.Step.TheVariants as s
use Rattle.ot_why_fault.specs.declared.own.Tally.{Tally as CodeTally}
use Rattle.ot_why_place.specs.Spots.{trail_bindings}
use Rattle.ot_model.specs.Tree.{E}
use Rattle.ot_why_fault.specs.declared.look.Measure.{Measure}
use Rattle.ot_why_fault.specs.declared.why.First.{First}
use Rattle.ot_why_fault.specs.declared.look.Look.{Look}

-- of a value its depth, its nodes, and the cells of its picks
abbrev pub measure_of : E → Measure
measure_of e = record { depth = long (depth_of e); nodes = long (nodes_of e); cells = long (picked_of e) }

abbrev pub counts_with : CodeTally → CodeTally → CodeTally
counts_with n m =
    record {
      statements = long (n.statements + m.statements);
      tasks = long (n.tasks + m.tasks);
      turns = long (n.turns + m.turns);
      nodes = long (n.nodes + m.nodes);
      cells = long (n.cells + m.cells);
    }

-- One entry after the other, until the first that has a fault.

-- so many were passed without a fault, and count so much; or so many stand before the first fault
pub data Walked : Type 0 where
  Passed : ℕ → CodeTally → Walked
  Met : ℕ → Why → Walked

abbrev pub unless_told : Option Why → ℕ → Walked → Walked
unless_told None n rest = rest
unless_told (Some why) n rest = Met n why

-- the counts with one entry more
abbrev pub counts_placed : Arrays → CodeTally → Placed → CodeTally
counts_placed shape counts p = counts_with counts (counts_of (own_tally shape p.variables p.text))

-- on from so many, and what they count
abbrev pub walk : Arrays → ℕ → CodeTally → List Placed → Walked
walk shape n counts [] = Passed n counts
walk shape n counts (p ∷ ps) =
    unless_told (after None (whys_at shape (counts_placed shape counts p) p)) n (walk shape (short (n + 1)) (counts_placed shape counts p) ps)

-- what stands in the bodies of a statement
abbrev pub in_bodies : Profile → ℕ → Bindings → Text → List Placed
in_bodies profile level variables text = in_order (first_copies profile level variables text) ++ in_order (second_copies profile level variables text)

-- ---- what the code's values stand for

abbrev pub walk_step : Step → Walked
walk_step (s.Passed passed) = Passed passed.entries passed.counts
walk_step (s.Met found) = Met found.index (why_by found.why)

abbrev pub walk_on : Finder → CodePassed → List Placed → Walked
walk_on finder passed ps = walk (shape_of finder.arrays.now finder.tasks) passed.entries passed.counts ps

-- what is told so far
abbrev pub told_by : First → Option Why
told_by first = option_map why_by first.why

-- the arrays and the variables over which parts are looked at
abbrev pub shape_by : Look → Arrays
shape_by look = shape_of look.arrays.now look.tasks

abbrev pub variables_by : Look → Bindings
variables_by look = trail_bindings look.trail.now
