-- What is drawn of a session.
use Rattle.std.specs.Prelude.{◌≡◌, ℕ, List, Option, Ok, string_bytes}
use Rattle.ot_model.specs.Programs.{expanded_of}
use Rattle.ot_model.specs.declared.shape.ArrayShape.{ArrayShape}
use Rattle.ot_check.specs.Jobs.{Spec, meaning_of}
use Rattle.ot_show_print.specs.Shown.{names_of}
use Rattle.ot_show_last.specs.LastRuns.{Finds}
use Rattle.ot_show_last.specs.declared.found.LastRun.{LastRun}
use Rattle.ot_show_graph.specs.Passing.{families, passed_by}
use Rattle.ot_show_graph.specs.Graphs.{families_of, marks_of}
use Rattle.ot_show_graph.specs.Dot as dot
use Rattle.ot_show_graph.specs.declared.drawing.Drawing.{Drawing}
use Rattle.ot_show_graph.specs.declared.graph.Graph.{Graph}

-- It is the text of a graph of the program's run, and tells how many tasks that has.
pub record Draws (spec : Spec) (arrays : List ArrayShape) (drawing : Drawing) : Type 0 where
  pub graph : Graph
  pub families : families_of graph.families.items ≡ families (expanded_of spec.checked.program).body spec.before
  pub marks : marks_of graph.marks.items ≡ passed_by (expanded_of spec.checked.program).body spec.before
  pub text : string_bytes drawing.text ≡ dot.text (names_of arrays) graph
  pub tasks : drawing.tasks ≡ (meaning_of spec).tasks

-- That program is the last that the session ran.
pub record DrawsLast (ahead left : Option (List ℕ)) (drawing : Drawing) : Type 0 where
  pub last : LastRun
  pub found : Finds ahead left (Ok last)
  pub drawn : Draws last.spec last.arrays.items drawing
