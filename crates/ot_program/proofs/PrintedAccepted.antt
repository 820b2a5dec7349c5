-- What is printed of a tree whose cells are there, and that is within the limits, is accepted.
use Rattle.std.proofs.Common.{◌≡◌, ℕ, ◌+◌, ◌<◌, ◌≤◌, List, [], ◌∷◌, ◌++◌, map, length, Some, None, Ok, refl, ◌∙◌, arith, append-nil}
use Rattle.std.specs.Prelude.{All}
use Rattle.std.specs.List.{AllByRecursion}
use Rattle.std.proofs.lemmas.Bool.{lt-ltb}
use Rattle.std.proofs.lemmas.List.Elements.{recursion_from_All}
use Rattle.std.proofs.lemmas.List.Sums.{sum_by-cons}
use Rattle.serde_json.specs.Data.{array}
use Rattle.ot_model.specs.Tree.{size, tasks_in, S, Set, Fold, If, Task, Wait, Group, Body, End, Next, body_of}
use Rattle.ot_model.specs.Names.{IsInShape, FitsShape, OneNamedIn, NamedIn}
use Rattle.ot_model.specs.Programs.{Arrays, array_lengths}
use Rattle.ot_model.specs.declared.expr.Cell.{Cell}
use Rattle.ot_model.specs.declared.expr.Section.{Section}
use Rattle.ot_model.specs.declared.stmt.Use.{Use}
use Rattle.ot_program.specs.declared.profile.Profile.{Profile}
use Rattle.ot_program.specs.declared.profile.Profile.TheVariants.{One, Two}
use Rattle.ot_program.specs.Accepted.{sum_one, sum_in, named_one, named_in, deepest_one, deepest, nesting_one, nesting, IsSmall}
use Rattle.ot_program.specs.Copies.{Placed, copies, copy, in_copy, in_order, statements_of}
use Rattle.ot_program.specs.Faults.{faults_nested}
use Rattle.ot_program.specs.Limits.{max_nesting, max_depth, cells_in, Tally, tally, plus, total}
use Rattle.ot_program.specs.Meanings.{each, Bindings, section}
use Rattle.ot_program.specs.Printed.{sections_text, alone, as_clause, statement_text, body_text, program_text, IsFound, AreNamed, AreShows, IsStatement, IsBody}
use Rattle.ot_program.specs.Programs.{fault_told, program_copy, program_of}
use Rattle.ot_program.proofs.CellCounts.{sections_long}
use Rattle.ot_program.proofs.PrintedBack.{section_back, value_back, sections_back, uses_back, wait_uses_back, body_back}
use Rattle.ot_program.proofs.PrintedClean.{cell_clean, expression_clean, fold_clean, uses_clean, wait_uses_clean, cells_clean, shows_clean, mixed_clean}
use Rattle.ot_program.proofs.Sized.{choice_count, choices_are, sized_copies}
use Rattle.ot_program.proofs.Tallies.{nothing, with_one, sum_from, total-append, nothing-plus, sum_is, told_from, told-from, AreWithin, not_past, AreClean}

-- ---- no statement has a fault of its own

clean-join : (shape : Arrays) (ps qs : List Placed) → AreClean shape ps → AreClean shape qs → AreClean shape (ps ++ qs)
clean-join shape [] qs h k = k
clean-join shape (p ∷ ps) qs h k = (h.0, clean-join shape ps qs h.1 k)

nested_clean : (level : ℕ) → level < max_nesting → faults_nested level ≡ []
nested_clean level low = rw (lt-ltb level max_nesting low) refl

nesting_some : (b : Body) → 1 ≤ nesting b
nesting_some End = omega arith
nesting_some (Next s rest) = omega (arith, nesting_some rest)

cells_there : (lens : List ℕ) (us : List Use) → All (λ u. IsInShape lens u.cell) us → AllByRecursion (λ u. IsInShape lens u.cell) us
cells_there lens us h = recursion_from_All (λ (u : Use). IsInShape lens u.cell) us h

mutual
  unfolding copies

  body_clean : (shape : Arrays) → AreNamed shape.arrays → (profile : Profile) (level : ℕ) (variables : Bindings) (b : Body) → IsBody shape profile b
      → NamedIn (array_lengths shape) b → deepest b ≤ max_depth → level + nesting b ≤ 1 + max_nesting
      → AreClean shape (in_order (copies profile level (array (body_text shape profile b)) variables))
  body_clean shape named profile level variables End h k deep low = tt
  body_clean shape named profile level variables (Next s rest) h k deep low =
      clean-join shape (in_copy (copy profile level (statement_text shape profile s) variables))
      (in_order (copies profile level (array (body_text shape profile rest)) variables))
      (one_clean shape named profile level variables s h.0 k.0 (omega (arith, deep)) (omega (arith, low)))
      (body_clean shape named profile level variables rest h.1 k.1 (omega (arith, deep)) (omega (arith, low)))

  one_clean : (shape : Arrays) → AreNamed shape.arrays → (profile : Profile) (level : ℕ) (variables : Bindings) (s : S) → IsStatement shape profile s
      → OneNamedIn (array_lengths shape) s → deepest_one s ≤ max_depth → level + nesting_one s ≤ max_nesting
      → AreClean shape (in_copy (copy profile level (statement_text shape profile s) variables))
  one_clean shape named profile level variables (Set c e) h k deep low =
      (rw (cell_clean shape named variables c h.0.0 k.0, expression_clean shape named variables e h.1 k.1 deep) refl, tt)
  one_clean shape named One level variables (Fold op c e) h k deep low =
      (rw (cell_clean shape named variables c h.1.0 k.0, expression_clean shape named variables e h.2 k.1 deep) refl, tt)
  one_clean shape named Two level variables (Fold op c e) h k deep low =
      (rw (fold_clean op, cell_clean shape named variables c h.1.0 k.0, expression_clean shape named variables e h.2 k.1 deep) refl, tt)
  one_clean shape named One level variables (If e a b) h k deep low =
      let own = expression_clean shape named variables e h.0 k.0 (omega (arith, deep)) in (
        rw (own, nested_clean level (omega (arith, low, nesting_some a))) refl,
        clean-join shape (in_order (copies One (level + 1) (array (body_text shape One a)) variables)) (in_order (copies One (level + 1) (array (body_text shape One b)) variables))
            (body_clean shape named One (level + 1) variables a h.1 k.1 (omega (arith, deep)) (omega (arith, low)))
            (body_clean shape named One (level + 1) variables b h.2 k.2 (omega (arith, deep)) (omega (arith, low))),
      )
  one_clean shape named Two level variables (If e a b) h k deep low =
      let own = expression_clean shape named variables e h.0 k.0 (omega (arith, deep)) in (
        rw (own, nested_clean level (omega (arith, low, nesting_some a))) refl,
        clean-join shape (in_order (copies Two (level + 1) (array (body_text shape Two a)) variables)) (in_order (copies Two (level + 1) (array (body_text shape Two b)) variables))
            (body_clean shape named Two (level + 1) variables a h.1 k.1 (omega (arith, deep)) (omega (arith, low)))
            (body_clean shape named Two (level + 1) variables b h.2 k.2 (omega (arith, deep)) (omega (arith, low))),
      )
  one_clean shape named profile level variables (Task us b) h k deep low = (
    rw (
      uses_clean shape named profile variables us h.0.0 (cells_there (array_lengths shape) us k.0),
      uses_back shape profile variables us h.0.0,
      mixed_clean us h.0.1,
      nested_clean level (omega (arith, low, nesting_some b)),
    ) refl,
    clean-join shape (in_order (copies profile (level + 1) (array (body_text shape profile b)) variables)) []
        (body_clean shape named profile (level + 1) variables b h.1 k.1 deep (omega (arith, low))) tt,
  )
  one_clean shape named profile level variables (Wait None) h k deep low = (refl, tt)
  one_clean shape named One level variables (Wait (Some us)) h k deep low = absurd h
  one_clean shape named Two level variables (Wait (Some us)) h k deep low =
      (wait_uses_clean shape named variables us h.0 (cells_there (array_lengths shape) us k), tt)
  one_clean shape named One level variables (Group op cs b) h k deep low = (
    rw (cells_clean shape named variables cs h.1 (recursion_from_All (IsInShape (array_lengths shape)) cs k.0), nested_clean level (omega (arith, low, nesting_some b))) refl,
    clean-join shape (in_order (copies One (level + 1) (array (body_text shape One b)) variables)) []
        (body_clean shape named One (level + 1) variables b h.2 k.1 deep (omega (arith, low))) tt,
  )
  one_clean shape named Two level variables (Group op cs b) h k deep low = (
    rw (fold_clean op, cells_clean shape named variables cs h.1 (recursion_from_All (IsInShape (array_lengths shape)) cs k.0), nested_clean level (omega (arith, low, nesting_some b))) refl,
    clean-join shape (in_order (copies Two (level + 1) (array (body_text shape Two b)) variables)) []
        (body_clean shape named Two (level + 1) variables b h.2 k.1 deep (omega (arith, low))) tt,
  )

-- ---- it counts no more than the tree has

record Few (n : Tally) (most : ℕ) : Type 0 where
  pub turns : n.turns ≡ 0
  pub cells : n.cells ≤ most

clauses_few : (us : List Use) → cells_in (map (λ c. c.section) (map as_clause us)) ≡ length us
clauses_few [] = refl
clauses_few (u ∷ us) = omega (arith, sum_by-cons (λ (x : Section). x.len) (alone u.cell) (map (λ c. c.section) (map as_clause us)), clauses_few us)

alone_few : (cs : List Cell) → cells_in (map alone cs) ≡ length cs
alone_few [] = refl
alone_few (c ∷ cs) = omega (arith, sum_by-cons (λ (x : Section). x.len) (alone c) (map alone cs), alone_few cs)

mutual
  unfolding copies

  body_few : (shape : Arrays) (profile : Profile) (level : ℕ) (variables : Bindings) (b : Body) → IsBody shape profile b
      → Few (total shape (in_order (copies profile level (array (body_text shape profile b)) variables))) (sum_in choice_count b + named_in b)
  body_few shape profile level variables End h = record { turns = refl; cells = omega arith }
  body_few shape profile level variables (Next s rest) h =
      let first = in_copy (copy profile level (statement_text shape profile s) variables) in
      let others = in_order (copies profile level (array (body_text shape profile rest)) variables) in
      let a = one_few shape profile level variables s h.0 in
      let b = body_few shape profile level variables rest h.1 in
      rw (total-append shape first others) (record { turns = omega (arith, a.turns, b.turns); cells = omega (arith, a.cells, b.cells) })

  one_few : (shape : Arrays) (profile : Profile) (level : ℕ) (variables : Bindings) (s : S) → IsStatement shape profile s
      → Few (total shape (in_copy (copy profile level (statement_text shape profile s) variables))) (sum_one choice_count s + named_one s)
  one_few shape profile level variables (Set c e) h =
      rw (value_back shape variables e h.1) (record { turns = refl; cells = omega (arith, choices_are e) })
  one_few shape One level variables (Fold op c e) h =
      rw (value_back shape variables e h.2) (record { turns = refl; cells = omega (arith, choices_are e) })
  one_few shape Two level variables (Fold op c e) h =
      rw (value_back shape variables e h.2) (record { turns = refl; cells = omega (arith, choices_are e) })
  one_few shape One level variables (If e a b) h =
      let one = in_order (copies One (level + 1) (array (body_text shape One a)) variables) in
      let two = in_order (copies One (level + 1) (array (body_text shape One b)) variables) in
      let one_is = body_few shape One (level + 1) variables a h.1 in
      let two_is = body_few shape One (level + 1) variables b h.2 in
      rw (value_back shape variables e h.0, total-append shape one two)
      (record { turns = omega (arith, one_is.turns, two_is.turns); cells = omega (arith, one_is.cells, two_is.cells, choices_are e) })
  one_few shape Two level variables (If e a b) h =
      let one = in_order (copies Two (level + 1) (array (body_text shape Two a)) variables) in
      let two = in_order (copies Two (level + 1) (array (body_text shape Two b)) variables) in
      let one_is = body_few shape Two (level + 1) variables a h.1 in
      let two_is = body_few shape Two (level + 1) variables b h.2 in
      rw (value_back shape variables e h.0, total-append shape one two)
      (record { turns = omega (arith, one_is.turns, two_is.turns); cells = omega (arith, one_is.cells, two_is.cells, choices_are e) })
  one_few shape profile level variables (Task us b) h =
      let inside = body_few shape profile (level + 1) variables b h.1 in
      rw (uses_back shape profile variables us h.0.0, append-nil (in_order (copies profile (level + 1) (array (body_text shape profile b)) variables)))
      (record { turns = omega (arith, inside.turns); cells = omega (arith, inside.cells, clauses_few us) })
  one_few shape profile level variables (Wait None) h = record { turns = refl; cells = omega arith }
  one_few shape One level variables (Wait (Some us)) h = absurd h
  one_few shape Two level variables (Wait (Some us)) h =
      rw (wait_uses_back shape variables us h.0) (record { turns = refl; cells = omega (arith, clauses_few us) })
  one_few shape One level variables (Group op cs b) h =
      let inside = body_few shape One (level + 1) variables b h.2 in
      rw (sections_back shape variables cs h.1, append-nil (in_order (copies One (level + 1) (array (body_text shape One b)) variables)))
      (record { turns = omega (arith, inside.turns); cells = omega (arith, inside.cells, alone_few cs) })
  one_few shape Two level variables (Group op cs b) h =
      let inside = body_few shape Two (level + 1) variables b h.2 in
      rw (sections_back shape variables cs h.1, append-nil (in_order (copies Two (level + 1) (array (body_text shape Two b)) variables)))
      (record { turns = omega (arith, inside.turns); cells = omega (arith, inside.cells, alone_few cs) })

-- ---- so nothing is told

sum_within : (limit : ℕ) (n m : Tally) → AreWithin limit (plus n m) → AreWithin limit n
sum_within limit n m w = record {
  statements = omega (arith, w.statements);
  tasks = omega (arith, w.tasks);
  turns = omega (arith, w.turns);
  nodes = omega (arith, w.nodes);
  cells = omega (arith, w.cells);
}

none_told : (shape : Arrays) (n : Tally) (ps : List Placed) → AreClean shape ps → AreWithin shape.tasks (sum_from shape n ps) → told_from shape n ps ≡ None
none_told shape n [] clean w = refl
none_told shape n (p ∷ ps) clean w =
    let m = with_one shape n p in
    let here = sum_within shape.tasks m (total shape ps) (rw (sum_is shape m ps) at w) in
    rw (clean.0, not_past shape.tasks m here) (none_told shape m ps clean.1 w)

shows_back : (shape : Arrays) → AreNamed shape.arrays → (shows : List Section)
    → AllByRecursion (λ s. IsFound shape s.array × FitsShape (array_lengths shape) s) shows → map (section shape []) (each (sections_text shape shows)) ≡ shows
shows_back shape named [] h = refl
shows_back shape named (s ∷ ss) h =
    rw (section_back shape [] s h.0.0 (omega (arith, h.0.1.short)) (omega (arith, h.0.1.short)), shows_back shape named ss h.1) refl

pub printed_is_accepted : (shape : Arrays) (profile : Profile) (shows : List Section) (b : Body) → AreNamed shape.arrays → AreShows shape shows
    → IsBody shape profile b → NamedIn (array_lengths shape) b → IsSmall shape.tasks shows b
    → program_of shape (program_text shape profile shows b) ≡ Ok (record { shows = shows; body = b; statements = size b; tasks = tasks_in b })
printed_is_accepted shape profile shows b named there body inside small =
    let shown = recursion_from_All (λ (s : Section). IsFound shape s.array × FitsShape (array_lengths shape) s) shows there in
    let cs = copies profile 1 (array (body_text shape profile b)) [] in
    let p = program_copy profile (array (sections_text shape shows)) (array (body_text shape profile b)) in
    let back = body_back shape profile 1 [] b body in
    let z = sized_copies shape profile 1 (array (body_text shape profile b)) [] in
    let few = body_few shape profile 1 [] b body in
    let n = plus (tally 0 0 0 0 (cells_in shows)) (total shape (in_order cs)) in
    let within : AreWithin shape.tasks n = record {
      statements = omega (arith, rw back at z.statements, small.statements);
      tasks = omega (arith, rw back at z.tasks, small.tasks);
      turns = omega (arith, few.turns);
      nodes = omega (arith, rw back at z.nodes, small.nodes);
      cells = omega (arith, few.cells, small.cells, sections_long shows);
    } in
    let clean : AreClean shape (in_copy p) = (
      rw (shows_clean shape named shows shown) refl,
      clean-join shape (in_order cs) [] (body_clean shape named profile 1 [] b body inside small.depth (omega (arith, small.nesting))) tt,
    ) in
    let sum : sum_from shape nothing (in_copy p) ≡ n =
    sum_is shape nothing (in_copy p) ∙ rw (shows_back shape named shows shown, append-nil (in_order cs), nothing-plus n) refl in
    let none : fault_told shape [] (in_copy p) ≡ None =
    told-from shape [] (in_copy p) ∙ none_told shape nothing (in_copy p) clean (rw (← sum) at within) in
    by profile none (shows_back shape named shows shown) back
  where
    by : (q : Profile) → fault_told shape [] (in_copy (program_copy q (array (sections_text shape shows)) (array (body_text shape q b)))) ≡ None
        → map (section shape []) (each (sections_text shape shows)) ≡ shows
        → body_of (statements_of shape (copies q 1 (array (body_text shape q b)) [])) ≡ b
        → program_of shape (program_text shape q shows b) ≡ Ok (record { shows = shows; body = b; statements = size b; tasks = tasks_in b })
    by One none shows_are body_is = rw (none, shows_are, body_is) refl
    by Two none shows_are body_is = rw (none, shows_are, body_is) refl
