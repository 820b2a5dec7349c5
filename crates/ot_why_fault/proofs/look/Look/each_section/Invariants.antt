use Rattle.std.proofs.Common.{◌≡◌, ◌+◌, ◌^◌, ◌<◌, drop}
use Rattle.std.specs.Prelude.{map, flat_map}
use Rattle.serde_json.specs.View.{items_view}
use Rattle.ot_program.specs.Limits.{cells_in}
use Rattle.ot_program.specs.Meanings.{each, section}
use Rattle.ot_why_fault.specs.Whys.{after, long, section_whys}
use Rattle.ot_why_fault.specs.Walk.{told_by, shape_by, variables_by}
use Rattle.ot_why_fault.proofs.look.Look.each_section.Given as goal

-- what is told, and what was counted, with those of the rest are those of all
abbrev pub invariant-loop-item : goal.invariant-loop-item
invariant-loop-item l =
    record {
      told : after (told_by l.first) (flat_map (section_whys (shape_by l.self) (variables_by l.self)) (each (items_view (drop l.item-index l.items))))
          ≡ after (told_by l.fn.first) (flat_map (section_whys (shape_by l.self) (variables_by l.self)) (each (items_view l.items)));
      counted : long (l.cells + cells_in (map (section (shape_by l.self) (variables_by l.self)) (each (items_view (drop l.item-index l.items)))))
          ≡ long (cells_in (map (section (shape_by l.self) (variables_by l.self)) (each (items_view l.items))));
      fits : l.cells < 2 ^ 64;
    }
