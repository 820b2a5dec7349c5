-- What open groups around a place combine over: a layer for each directive, the outermost first.
use Rattle.std.specs.Prelude.{List, [], ◌∷◌, ◌++◌, map, if◌then◌else◌}
use Rattle.ot_c_scope.specs.declared.layers.Layer.{Layer}
use Rattle.ot_c_scope.specs.declared.scope.Opening.{Opening}
use Rattle.ot_c_scope.specs.Scopes.{Extent, not_own}

-- what a directive opens; where a task stands within it, no copy is that task's own
abbrev pub opened_by : Layer → List Opening
opened_by l = if l.own then l.frame.value.openings else map not_own l.frame.value.openings

-- the innermost first
abbrev pub opened_in : List Layer → List Opening
opened_in [] = []
opened_in (l ∷ ls) = opened_in ls ++ opened_by l

abbrev pub portions_by : Layer → List Extent
portions_by l = l.frame.value.portions

-- the outermost first
abbrev pub portions_in : List Layer → List Extent
portions_in [] = []
portions_in (l ∷ ls) = portions_by l ++ portions_in ls
