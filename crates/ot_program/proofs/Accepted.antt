-- What holds of each program that is accepted.
use Rattle.std.proofs.Common.{◌≡◌, List, [], ◌++◌, map, Option, Some, None, IfOk, refl, sym, ap, ◌∙◌, arith, append-nil}
use Rattle.std.proofs.lemmas.List.Elements.{All-from_recursion}
use Rattle.serde_json.specs.Data.{Data, array, no_items, item}
use Rattle.ot_model.specs.Names.{FitsShape}
use Rattle.ot_model.specs.Programs.{Expanded, IsNamedIn, Arrays, AreShort, array_lengths}
use Rattle.ot_program.specs.declared.fault.Refusal.{Refusal}
use Rattle.ot_program.specs.declared.profile.Profile.{Profile}
use Rattle.ot_program.specs.Accepted.{IsSmall}
use Rattle.ot_program.specs.Copies.{Placed, copies, in_copy, in_order, statement_of}
use Rattle.ot_program.specs.Faults.{no_list, list_faults, section_faults, faults_nested}
use Rattle.ot_program.specs.Limits.{cells_in, tally, plus, total}
use Rattle.ot_program.specs.Meanings.{items, section, profile_of}
use Rattle.ot_program.specs.Programs.{fault_told, told_or, expansion, program_copy, program_in, program_of}
use Rattle.ot_program.proofs.Named.{sections_named, copies_named}
use Rattle.ot_program.proofs.CellCounts.{sections_long}
use Rattle.ot_program.proofs.Shallow.{shallow_copies}
use Rattle.ot_program.proofs.Sized.{sized_copies}
use Rattle.ot_program.proofs.Tallies.{nothing, sum_from, sum_is, told-from, append-none, none_within, within_sum, AreClean, clean_where}

abbrev pub expansion_of : Arrays → Profile → Data → Data → Expanded
expansion_of shape profile a b = expansion (map (section shape []) (items a)) (statement_of shape (program_copy profile a b))

abbrev pub told_of : Arrays → Profile → Data → Data → Option Refusal
told_of shape profile a b = fault_told shape [] (in_copy (program_copy profile a b))

named_by : (shape : Arrays) → AreShort shape.arrays → (profile : Profile) (a b : Data) (o : Option Refusal) → told_of shape profile a b ≡ o
    → IfOk (told_or (expansion_of shape profile a b) o) (IsNamedIn (array_lengths shape))
named_by shape short profile a b None is =
    let lens = array_lengths shape in
    let ss = map (section shape []) (items a) in
    let ps = in_copy (program_copy profile a b) in
    let clean = clean_where shape nothing ps (sym (told-from shape [] ps) ∙ is) in
    let parts = append-none (list_faults (section_faults shape []) a ++ no_list b) (faults_nested 0) clean.0 in
    let list = append-none (list_faults (section_faults shape []) a) (no_list b) parts.0 in
    let body : AreClean shape (in_order (copies profile 1 b [])) = rw (append-nil (in_order (copies profile 1 b []))) at clean.1 in
    record {
      shows = All-from_recursion (FitsShape lens) ss (sections_named shape short [] a list.0);
      body = copies_named shape short (copies profile 1 b []) body;
    }
named_by shape short profile a b (Some c) is = tt

small_by : (shape : Arrays) (profile : Profile) (a b : Data) (o : Option Refusal) → told_of shape profile a b ≡ o
    → IfOk (told_or (expansion_of shape profile a b) o) (λ p. IsSmall shape.tasks p.shows p.body)
small_by shape profile a b None is =
    let ps = in_copy (program_copy profile a b) in
    let cs = copies profile 1 b [] in
    let cells = cells_in (map (section shape []) (items a)) in
    let w = within_sum shape nothing ps (none_within shape.tasks) (sym (told-from shape [] ps) ∙ is) in
    let sum : sum_from shape nothing ps ≡ plus nothing (plus (tally 0 0 0 0 cells) (total shape (in_order cs))) =
    sum_is shape nothing ps ∙ ap (λ (qs : List Placed). plus nothing (plus (tally 0 0 0 0 cells) (total shape qs))) (append-nil (in_order cs)) in
    let v = rw sum at w in
    let z = sized_copies shape profile 1 b [] in
    let clean = clean_where shape nothing ps (sym (told-from shape [] ps) ∙ is) in
    let body : AreClean shape (in_order cs) = rw (append-nil (in_order cs)) at clean.1 in
    let low = shallow_copies shape profile 1 b [] (omega arith) body in
    record {
      statements = omega (arith, v.statements, z.statements);
      tasks = omega (arith, v.tasks, z.tasks);
      nodes = omega (arith, v.nodes, z.nodes);
      cells = omega (arith, v.cells, z.cells, sections_long (map (section shape []) (items a)));
      depth = low.depth;
      nesting = omega (arith, low.nesting);
    }
small_by shape profile a b (Some c) is = tt

pub accepted_is_named : (shape : Arrays) → AreShort shape.arrays → (d : Data) → IfOk (program_of shape d) (IsNamedIn (array_lengths shape))
accepted_is_named shape short (array (item t (item a (item b no_items)))) = by (profile_of t)
  where
    by : (o : Option Profile) → IfOk (program_in shape o a b) (IsNamedIn (array_lengths shape))
    by None = tt
    by (Some profile) = named_by shape short profile a b (told_of shape profile a b) refl
accepted_is_named shape short _ = tt

pub accepted_is_small : (shape : Arrays) (d : Data) → IfOk (program_of shape d) (λ p. IsSmall shape.tasks p.shows p.body)
accepted_is_small shape (array (item t (item a (item b no_items)))) = by (profile_of t)
  where
    by : (o : Option Profile) → IfOk (program_in shape o a b) (λ p. IsSmall shape.tasks p.shows p.body)
    by None = tt
    by (Some profile) = small_by shape profile a b (told_of shape profile a b) refl
accepted_is_small shape _ = tt
