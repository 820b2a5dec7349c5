use Rattle.std.proofs.Common.{◌≡◌, ◌++◌, [], drop}
use Rattle.std.specs.Prelude.{map, flat_map}
use Rattle.std.specs.List.{AllByRecursion}
use Rattle.serde_json.specs.View.{items_view}
use Rattle.ot_model.specs.Programs.{Arrays, arrays_of}
use Rattle.ot_program.specs.Faults.{clause_faults}
use Rattle.ot_program.specs.Meanings.{each, clause}
use Rattle.ot_program.specs.declared.profile.Profile.{Profile}
use Rattle.ot_why_place.specs.Spots.{trail_bindings}
use Rattle.ot_why_mixed.specs.Rows.{row_of, row_by, Fits}
use Rattle.ot_why_mixed.proofs.mixed.each_clause.Given as goal

-- the rows so far with those of the rest are those of all; where the rest fits, all do
abbrev pub invariant-loop-item : goal.invariant-loop-item
invariant-loop-item l =
    record {
      rows : (shape : Arrays) (profile : Profile) → shape.arrays ≡ arrays_of l.arrays → flat_map (clause_faults shape profile (trail_bindings l.trail)) (each (items_view l.items)) ≡ []
          → map row_by l.named.items ++ map (λ d. row_of shape (clause shape profile (trail_bindings l.trail) d)) (each (items_view (drop l.item-index l.items)))
          ≡ map (λ d. row_of shape (clause shape profile (trail_bindings l.trail) d)) (each (items_view l.items));
      fits : (shape : Arrays) (profile : Profile) → shape.arrays ≡ arrays_of l.arrays → flat_map (clause_faults shape profile (trail_bindings l.trail)) (each (items_view l.items)) ≡ []
          → AllByRecursion (λ d. Fits (clause shape profile (trail_bindings l.trail) d).section) (each (items_view (drop l.item-index l.items)))
          → AllByRecursion (λ d. Fits (clause shape profile (trail_bindings l.trail) d).section) (each (items_view l.items));
    }
