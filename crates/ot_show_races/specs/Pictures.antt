-- A run as text, in the language of `dot`, and the race in it.
use Rattle.std.specs.Prelude.{ℕ, ◌==◌, ◌||◌, List, [], ◌∷◌, ◌++◌, Option, Some, None, codes, flat_map, string_bytes, if◌then◌else◌}
use Rattle.std.specs.Fmt.{decimal}
use Rattle.ot_show_races.specs.declared.picture.Link.{Link}
use Rattle.ot_show_races.specs.declared.picture.Pair.{Pair}
use Rattle.ot_show_races.specs.declared.picture.Picture.{Picture}
use Rattle.ot_show_races.specs.declared.picture.Task.{Task}
use Rattle.ot_show_races.specs.declared.picture.Touch.{Touch}
use Rattle.ot_show_races.specs.declared.picture.Wait.{Wait}

-- within quotes, a quote and a backslash have a backslash before them
abbrev pub quoted_byte : ℕ → List ℕ
quoted_byte byte = if (byte == 34) || (byte == 92) then 92 ∷ byte ∷ [] else byte ∷ []

abbrev pub quoted_text : List ℕ → List ℕ
quoted_text text = flat_map quoted_byte text

unfoldable pub label_text : List ℕ → List ℕ
label_text label = codes "label=\"" ++ (quoted_text label ++ codes "\"];\n")

-- a node of a name with a number
abbrev pub node_text : List ℕ → ℕ → List ℕ → List ℕ
node_text name number label = (name ++ decimal number) ++ (codes " [" ++ label_text label)

-- an edge between two such nodes
abbrev pub edge_text : List ℕ → ℕ → List ℕ → ℕ → List ℕ → List ℕ
edge_text name number other behind style = (name ++ decimal number) ++ ((other ++ decimal behind) ++ style)

-- a task is a node, and a dashed edge leads to it from the one that created it
unfoldable pub task_text : Task → List ℕ
task_text task =
    node_text (codes "  t") task.number (string_bytes task.label) ++ edge_text (codes "  t") task.parent (codes " -> t") task.number (codes " [style=dashed];\n")

-- the tasks that aren't drawn are a node of their own
unfoldable pub count_text : ℕ → List ℕ
count_text more = (codes "  more [label=\"" ++ decimal more) ++ codes " more tasks\"];\n"

abbrev pub more_text : ℕ → List ℕ
more_text more = if more == 0 then [] else count_text more

-- a wait is a node to which a dashed edge leads from its task, and dotted ones from those that it awaits
abbrev pub awaited_text : ℕ → ℕ → List ℕ
awaited_text wait task = edge_text (codes "  t") task (codes " -> w") wait (codes " [style=dotted];\n")

unfoldable pub wait_text : Wait → List ℕ
wait_text wait =
    node_text (codes "  w") wait.number (string_bytes wait.label)
    ++ (edge_text (codes "  t") wait.task (codes " -> w") wait.number (codes " [style=dashed];\n") ++ flat_map (awaited_text wait.number) wait.awaited.items)

-- an edge leads from a task to one that waits for it
abbrev pub link_text : Link → List ℕ
link_text link = edge_text (codes "  t") link.earlier (codes " -> t") link.later (codes ";\n")

-- a touch is a red box of this name, and a dashed edge leads to it from its task
unfoldable pub red_box : List ℕ
red_box = codes " [shape=box, color=red, "

abbrev pub touch_node : List ℕ → List ℕ → List ℕ
touch_node name label = codes "  " ++ (name ++ (red_box ++ label_text label))

unfoldable pub touch_text : List ℕ → Touch → List ℕ
touch_text name touch =
    touch_node name (string_bytes touch.label) ++ ((codes "  t" ++ decimal touch.task) ++ (codes " -> " ++ (name ++ codes " [style=dashed];\n")))

-- nothing orders the two touches: a dashed red line is between them
unfoldable pub pair_text : Pair → List ℕ
pair_text pair =
    touch_text (codes "first") pair.first
    ++ (touch_text (codes "second") pair.second ++ codes "  first -> second [style=dashed, color=red, dir=none];\n")

abbrev pub race_text : Option Pair → List ℕ
race_text None = []
race_text (Some pair) = pair_text pair

unfoldable pub head : List ℕ
head = codes "digraph tasks {\n  t0 [label=\"program\"];\n"

unfoldable pub picture_text : Picture → List ℕ
picture_text picture =
    head
    ++ (flat_map task_text picture.tasks.items
    ++ (more_text picture.more
    ++ (flat_map wait_text picture.waits.items ++ (flat_map link_text picture.links.items ++ (race_text picture.race ++ codes "}\n")))))
