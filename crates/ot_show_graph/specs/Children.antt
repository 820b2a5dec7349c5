-- What the children of a body stand for.
use Rattle.std.specs.Prelude.{List, map}
use Rattle.ot_model.specs.declared.stmt.Use.{Use}
use Rattle.ot_show_graph.specs.Created.{Created}
use Rattle.ot_show_graph.specs.declared.child.Child.{Child}

abbrev pub created_of : Child → Created
created_of c = record { number = c.number; place = c.place; uses = c.decl.now }

abbrev pub all_of : List Child → List Created
all_of children = map created_of children

-- what they declare
abbrev pub decls_of : List Child → List (List Use)
decls_of children = map (λ c. c.decl.now) children
