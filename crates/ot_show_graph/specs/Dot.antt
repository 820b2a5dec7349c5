-- A task graph as text, in the language of `dot`.
use Rattle.std.specs.Prelude.{ℕ, ◌+◌, List, [], ◌∷◌, ◌++◌, codes, decimal, Option, slice_get, option_map, unwrap_or}
use Rattle.ot_model.specs.declared.expr.Cell.{Cell}
use Rattle.ot_model.specs.declared.fold.Fold.{Fold as Operation}
use Rattle.ot_model.specs.declared.stmt.Use.{Use}
use Rattle.ot_show_print.specs.Shown.{Text, group, sections, task, wait, sections_of}
use Rattle.ot_show_graph.specs.Created.{Created, Passed, Creates, Awaits, Enters, Leaves}
use Rattle.ot_show_graph.specs.Links.{between, cells_at}
use Rattle.ot_show_graph.specs.Children.{decls_of}
use Rattle.ot_show_graph.specs.Graphs.{marks_of}
use Rattle.ot_show_graph.specs.declared.child.Child.{Child}
use Rattle.ot_show_graph.specs.declared.family.Family.{Family}
use Rattle.ot_show_graph.specs.declared.graph.Graph.{Graph}
use Rattle.ot_show_graph.specs.declared.link.Link.{Link}

-- words, and a number behind them
abbrev pub words_numbered : Text → ℕ → Text
words_numbered words n = words ++ decimal n

-- ---- nodes: `t` with a task's number, `w` with that of a wait; groups are boxes, and have numbers, too

abbrev pub task_node : List Text → Created → Text
task_node names c =
    words_numbered (codes "  t") c.number ++ words_numbered (codes " [label=\"") c.place ++ codes ": " ++ task names c.uses ++ codes "\"];\n"

abbrev pub wait_node : List Text → ℕ → Option (List Use) → Text
wait_node names n w = words_numbered (codes "  w") n ++ codes " [shape=box, label=\"" ++ wait names w ++ codes "\"];\n"

abbrev pub box : List Text → ℕ → Operation → List Cell → Text
box names n op cs = words_numbered (codes "  subgraph cluster_") n ++ codes " {\n  label=\"" ++ group names op cs ++ codes "\";\n"

-- what is written of a mark: of a wait with the one number, of the beginning of a group with the other
abbrev pub node : List Text → ℕ → ℕ → Passed → Text
node names n g (Creates own c) = task_node names c
node names n g (Awaits own w awaited) = wait_node names n w
node names n g (Enters op cs) = box names g op cs
node names n g Leaves = codes "  }\n"

-- one for a wait, and one for the beginning of a group
abbrev pub waits_in : Passed → ℕ
waits_in (Awaits own w awaited) = 1
waits_in passed = 0

abbrev pub groups_in : Passed → ℕ
groups_in (Enters op cs) = 1
groups_in passed = 0

-- behind so many waits and groups
abbrev pub nodes : List Text → ℕ → ℕ → List Passed → Text
nodes names n g [] = []
nodes names n g (m ∷ ms) = node names (n + 1) (g + 1) m ++ nodes names (n + waits_in m) (g + groups_in m) ms

-- ---- who creates whom, and what each wait awaits

abbrev pub awaited_edges : ℕ → List Created → Text
awaited_edges n [] = []
awaited_edges n (c ∷ cs) = words_numbered (codes "  t") c.number ++ words_numbered (codes " -> w") n ++ codes " [style=dotted];\n" ++ awaited_edges n cs

abbrev pub creation : ℕ → Passed → Text
creation n (Creates own c) = words_numbered (codes "  t") own ++ words_numbered (codes " -> t") c.number ++ codes " [style=dashed];\n"
creation n (Awaits own w awaited) = words_numbered (codes "  t") own ++ words_numbered (codes " -> w") n ++ codes " [style=dashed];\n" ++ awaited_edges n awaited
creation n (Enters op cs) = []
creation n Leaves = []

-- behind so many waits
abbrev pub creations : ℕ → List Passed → Text
creations n [] = []
creations n (m ∷ ms) = creation (n + 1) m ++ creations (n + waits_in m) ms

-- ---- who waits for whom by itself, and at which cells

abbrev pub edge_of : List Text → List Child → Link → Child → Child → Text
edge_of names children link one other =
    words_numbered (codes "  t") one.number ++ words_numbered (codes " -> t") other.number ++ codes " [label=\""
    ++ sections names (sections_of (cells_at one.decl.now (between link (decls_of children)) other.decl.now)) ++ codes "\"];\n"

-- of the two children that the link names
abbrev pub edge : List Text → List Child → Link → Text
edge names children link =
    unwrap_or (option_map (λ one. unwrap_or (option_map (edge_of names children link one) (slice_get children link.later)) []) (slice_get children link.earlier)) []

abbrev pub edges : List Text → List Child → List Link → Text
edges names children [] = []
edges names children (l ∷ ls) = edge names children l ++ edges names children ls

abbrev pub edges_of : List Text → List Family → Text
edges_of names [] = []
edges_of names (f ∷ fs) = edges names f.children.items f.links.items ++ edges_of names fs

-- ---- the whole

abbrev pub text : List Text → Graph → Text
text names graph =
    codes "digraph tasks {\n  t0 [label=\"program\"];\n" ++ nodes names 0 0 (marks_of graph.marks.items) ++ creations 0 (marks_of graph.marks.items)
    ++ edges_of names graph.families.items ++ codes "}\n"
