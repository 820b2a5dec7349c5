-- How many cells a tree names, beside what their clauses and sections count.
use Rattle.std.proofs.Common.{◌≡◌, ℕ, ◌+◌, ◌≤◌, Bool, true, false, cond, List, [], ◌∷◌, ◌++◌, map, length, refl, arith, length-append}
use Rattle.std.specs.Prelude.{flat_map, fold}
use Rattle.std.proofs.lemmas.List.{length-map}
use Rattle.std.proofs.lemmas.List.FromFn.{length-map-range_with_len}
use Rattle.std.proofs.lemmas.List.Sums.{sum_by-cons}
use Rattle.ot_model.specs.Cells.{same_cell, is_before}
use Rattle.ot_model.specs.Tree.{S, body_of, cell_at, cells_of}
use Rattle.ot_model.specs.declared.expr.Cell.{Cell}
use Rattle.ot_model.specs.declared.expr.Section.{Section}
use Rattle.ot_model.specs.declared.stmt.Use.{Use}
use Rattle.ot_program.specs.Accepted.{named_in}
use Rattle.ot_program.specs.Meanings.{cell_placed, named_cells, mode_among, uses, Clause}
use Rattle.ot_program.specs.Limits.{cells_in}

pub named-append : (ss ts : List S) → named_in (body_of (ss ++ ts)) ≡ named_in (body_of ss) + named_in (body_of ts)
named-append [] ts = omega arith
named-append (s ∷ ss) ts = omega (arith, named-append ss ts)

pub sections_long : (sections : List Section) → length (flat_map cells_of sections) ≡ cells_in sections
sections_long [] = refl
sections_long (s ∷ ss) =
    omega (arith, length-append (cells_of s) (flat_map cells_of ss), length-map-range_with_len (cell_at s) 0 s.len, sum_by-cons (λ (x : Section). x.len) s ss, sections_long ss)

clauses_long : (clauses : List Clause) → length (flat_map (λ clause. cells_of clause.section) clauses) ≡ cells_in (map (λ c. c.section) clauses)
clauses_long [] = refl
clauses_long (c ∷ cs) =
    omega (
      arith,
      length-append (cells_of c.section) (flat_map (λ clause. cells_of clause.section) cs),
      length-map-range_with_len (cell_at c.section) 0 c.section.len,
      sum_by-cons (λ (x : Section). x.len) c.section (map (λ c. c.section) cs),
      clauses_long cs,
    )

length_if : {A : Type 0} (b : Bool) (xs ys : List A) (n : ℕ) → length xs ≤ n → length ys ≤ n → length (cond b xs ys) ≤ n
length_if true xs ys n h k = h
length_if false xs ys n h k = k

placed_long : (cells : List Cell) (c : Cell) → length (cell_placed cells c) ≤ 1 + length cells
placed_long [] c = omega arith
placed_long (d ∷ ds) c =
    length_if (is_before c d) (c ∷ d ∷ ds) (cond (same_cell c d) (d ∷ ds) (d ∷ cell_placed ds c)) (1 + length (d ∷ ds)) (omega arith)
    (length_if (same_cell c d) (d ∷ ds) (d ∷ cell_placed ds c) (1 + length (d ∷ ds)) (omega arith) (omega (arith, placed_long ds c)))

all_placed_long : (cells more : List Cell) → length (fold cell_placed cells more) ≤ length cells + length more
all_placed_long cells [] = omega arith
all_placed_long cells (c ∷ cs) = omega (arith, all_placed_long (cell_placed cells c) cs, placed_long cells c)

-- a declaration has no more cells than its clauses name
pub uses_few : (clauses : List Clause) → length (uses clauses) ≤ cells_in (map (λ c. c.section) clauses)
uses_few clauses =
    let use_of : Cell → Use = λ c. record { cell = c; mode = mode_among clauses c } in
    omega (arith, length-map (named_cells clauses) use_of, all_placed_long [] (flat_map (λ clause. cells_of clause.section) clauses), clauses_long clauses)
