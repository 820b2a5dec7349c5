-- What the families and marks of a graph stand for.
use Rattle.std.specs.Prelude.{List, map, option_copied}
use Rattle.ot_show_graph.specs.Created.{Kin, Passed, Creates, Awaits, Enters, Leaves}
use Rattle.ot_show_graph.specs.Children.{created_of, all_of}
use Rattle.ot_show_graph.specs.declared.family.Family.{Family}
use Rattle.ot_show_graph.specs.declared.mark.Mark.{Mark}
use Rattle.ot_show_graph.specs.declared.mark.Mark.TheVariants as m

abbrev pub kin_of : Family → Kin
kin_of family = record { parent = family.parent; children = all_of family.children.items }

abbrev pub families_of : List Family → List Kin
families_of families = map kin_of families

abbrev pub passed_of : Mark → Passed
passed_of (m.Task parent child) = Creates parent (created_of child)
passed_of (m.Wait parent decl awaited) = Awaits parent (option_copied decl) (all_of awaited.items)
passed_of (m.Enter op cells) = Enters op cells.now.items
passed_of m.Leave = Leaves

abbrev pub marks_of : List Mark → List Passed
marks_of marks = map passed_of marks
