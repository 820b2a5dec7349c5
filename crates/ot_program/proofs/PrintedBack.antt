-- What is printed of a tree denotes the tree.
use Rattle.std.proofs.Common.{◌≡◌, ℕ, ◌+◌, ◌<◌, ◌^◌, List, [], ◌∷◌, map, Some, None, refl, ap, ◌∙◌, arith, add-zero}
use Rattle.std.specs.Prelude.{flat_map}
use Rattle.std.proofs.lemmas.Bool.{lt-ltb}
use Rattle.serde_json.specs.Data.{string, array}
use Rattle.ot_model.specs.Programs.{Arrays}
use Rattle.ot_model.specs.Signs.{identifier}
use Rattle.ot_model.specs.Tree.{E, Literal, CellAt, Apply, PickFrom, S, Set, Fold, If, Task, Wait, Group, Body, End, Next, body_of, cells_of}
use Rattle.ot_model.specs.declared.expr.Cell.{Cell}
use Rattle.ot_model.specs.declared.expr.Section.{Section}
use Rattle.ot_model.specs.declared.expr.Op.TheVariants.{Plus, Minus, Times, And, Or, Xor, Less, Equal, Min, Max}
use Rattle.ot_model.specs.declared.fold.Fold.{Fold as Operation}
use Rattle.ot_model.specs.declared.fold.Fold.TheVariants as by
use Rattle.ot_model.specs.declared.stmt.Mode.{Mode}
use Rattle.ot_model.specs.declared.stmt.Mode.TheVariants.{Reads, Writes, Folds}
use Rattle.ot_model.specs.declared.stmt.Use.{Use}
use Rattle.ot_program.specs.declared.profile.Profile.{Profile}
use Rattle.ot_program.specs.declared.profile.Profile.TheVariants.{One, Two}
use Rattle.ot_program.specs.Copies.{copies, copy, statement_of, statements_of}
use Rattle.ot_program.specs.Meanings.{each, fold_of, Bindings, size, Clause, cell, section, value, clause, wait_clause}
use Rattle.ot_program.specs.Printed.{IsFound, num, cell_text, section_text, value_text, alone, cells_text, clause_text, uses_text, statement_text, body_text, IsCell, IsValue, AreCells, as_clause, IsModeOf, AreUsesOf, IsWaitMode, AreWaitUses, IsStatement, IsBody}

pub size_back : (variables : Bindings) (n : ℕ) → n < 2 ^ 64 → size variables (num n) ≡ n
unfolding size
size_back variables n below = rw (lt-ltb n (2 ^ 64) below) refl

pub cell_back : (shape : Arrays) (variables : Bindings) (c : Cell) → IsCell shape c → cell shape variables (cell_text shape c) ≡ c
cell_back shape variables c h = rw (h.0, size_back variables c.index h.1) refl

pub section_back : (shape : Arrays) (variables : Bindings) (s : Section) → IsFound shape s.array → s.start < 2 ^ 64 → s.len < 2 ^ 64 → section shape variables (section_text shape s) ≡ s
section_back shape variables s h i j = rw (h, size_back variables s.start i, size_back variables s.len j) refl

pub value_back : (shape : Arrays) (variables : Bindings) (e : E) → IsValue shape e → value shape variables (value_text shape e) ≡ e
unfolding value
value_back shape variables (Literal n) h = rw (lt-ltb n (2 ^ 64) h) refl
value_back shape variables (CellAt c) h = ap CellAt (cell_back shape variables c h)
value_back shape variables (PickFrom s e) h = rw (section_back shape variables s h.0 h.1 h.2, value_back shape variables e h.3) refl
value_back shape variables (Apply Plus a b) h = rw (value_back shape variables a h.0, value_back shape variables b h.1) refl
value_back shape variables (Apply Minus a b) h = rw (value_back shape variables a h.0, value_back shape variables b h.1) refl
value_back shape variables (Apply Times a b) h = rw (value_back shape variables a h.0, value_back shape variables b h.1) refl
value_back shape variables (Apply And a b) h = rw (value_back shape variables a h.0, value_back shape variables b h.1) refl
value_back shape variables (Apply Or a b) h = rw (value_back shape variables a h.0, value_back shape variables b h.1) refl
value_back shape variables (Apply Xor a b) h = rw (value_back shape variables a h.0, value_back shape variables b h.1) refl
value_back shape variables (Apply Less a b) h = rw (value_back shape variables a h.0, value_back shape variables b h.1) refl
value_back shape variables (Apply Equal a b) h = rw (value_back shape variables a h.0, value_back shape variables b h.1) refl
value_back shape variables (Apply Min a b) h = rw (value_back shape variables a h.0, value_back shape variables b h.1) refl
value_back shape variables (Apply Max a b) h = rw (value_back shape variables a h.0, value_back shape variables b h.1) refl

pub sections_back : (shape : Arrays) (variables : Bindings) (cs : List Cell) → AreCells shape cs
    → map (section shape variables) (each (cells_text shape cs)) ≡ map alone cs
sections_back shape variables [] h = refl
sections_back shape variables (c ∷ cs) h =
    ap (λ (s : Section). s ∷ map (section shape variables) (each (cells_text shape cs))) (section_back shape variables (alone c) h.0.0 h.0.1 (omega arith))
    ∙ ap (λ (ss : List Section). alone c ∷ ss) (sections_back shape variables cs h.1)

alone_cells : (cs : List Cell) → flat_map cells_of (map alone cs) ≡ cs
alone_cells [] = refl
alone_cells (c ∷ cs) = rw (add-zero c.index, alone_cells cs) refl

pub cells_back : (shape : Arrays) (variables : Bindings) (cs : List Cell) → AreCells shape cs
    → flat_map cells_of (map (section shape variables) (each (cells_text shape cs))) ≡ cs
cells_back shape variables cs h = ap (flat_map cells_of) (sections_back shape variables cs h) ∙ alone_cells cs

pub fold_back : (op : Operation) → fold_of (string (identifier op)) ≡ Some op
fold_back by.Plus = refl
fold_back by.Times = refl
fold_back by.And = refl
fold_back by.Or = refl
fold_back by.Xor = refl
fold_back by.Min = refl
fold_back by.Max = refl

clause_back : (shape : Arrays) (profile : Profile) (variables : Bindings) (c : Cell) (m : Mode) (rest : List Clause) → IsCell shape c → IsModeOf profile m
    → clause shape profile variables (clause_text profile m (section_text shape (alone c))) ∷ rest
    ≡ record { mode = m; section = alone c } ∷ rest
clause_back shape profile variables c Reads rest h j = rw (section_back shape variables (alone c) h.0 h.1 (omega arith)) refl
clause_back shape profile variables c Writes rest h j = rw (section_back shape variables (alone c) h.0 h.1 (omega arith)) refl
clause_back shape One variables c (Folds op) rest h j = rw (section_back shape variables (alone c) h.0 h.1 (omega arith), j) refl
clause_back shape Two variables c (Folds op) rest h j = rw (section_back shape variables (alone c) h.0 h.1 (omega arith), fold_back op) refl

pub uses_back : (shape : Arrays) (profile : Profile) (variables : Bindings) (us : List Use) → AreUsesOf shape profile us
    → map (clause shape profile variables) (each (uses_text shape profile us)) ≡ map as_clause us
uses_back shape profile variables [] h = refl
uses_back shape profile variables (u ∷ us) h =
    rw (uses_back shape profile variables us h.2) (clause_back shape profile variables u.cell u.mode (map as_clause us) h.0 h.1)

wait_clause_back : (shape : Arrays) (variables : Bindings) (u : Use) → AreWaitUses shape (u ∷ [])
    → wait_clause shape variables (clause_text Two u.mode (section_text shape (alone u.cell))) ≡ as_clause u
wait_clause_back shape variables u h = by u.mode h.1
  where
    by : (m : Mode) → IsWaitMode m → wait_clause shape variables (clause_text Two m (section_text shape (alone u.cell))) ≡ record { mode = m; section = alone u.cell }
    by Reads j = rw (section_back shape variables (alone u.cell) h.0.0 h.0.1 (omega arith)) refl
    by Writes j = rw (section_back shape variables (alone u.cell) h.0.0 h.0.1 (omega arith)) refl
    by (Folds op) j = absurd j

pub wait_uses_back : (shape : Arrays) (variables : Bindings) (us : List Use) → AreWaitUses shape us
    → map (wait_clause shape variables) (each (uses_text shape Two us)) ≡ map as_clause us
wait_uses_back shape variables [] h = refl
wait_uses_back shape variables (u ∷ us) h =
    rw (wait_uses_back shape variables us h.2) (ap (λ (c : Clause). c ∷ map as_clause us) (wait_clause_back shape variables u (h.0, h.1, tt)))

mutual
  unfolding copies

  pub body_back : (shape : Arrays) (profile : Profile) (level : ℕ) (variables : Bindings) (b : Body) → IsBody shape profile b
      → body_of (statements_of shape (copies profile level (array (body_text shape profile b)) variables)) ≡ b
  body_back shape profile level variables End h = refl
  body_back shape profile level variables (Next s rest) h =
      rw (one_back shape profile level variables s h.0, body_back shape profile level variables rest h.1) refl

  one_back : (shape : Arrays) (profile : Profile) (level : ℕ) (variables : Bindings) (s : S) → IsStatement shape profile s
      → statement_of shape (copy profile level (statement_text shape profile s) variables) ≡ s ∷ []
  one_back shape profile level variables (Set c e) h = rw (cell_back shape variables c h.0, value_back shape variables e h.1) refl
  one_back shape One level variables (Fold op c e) h = rw (h.0, cell_back shape variables c h.1, value_back shape variables e h.2) refl
  one_back shape Two level variables (Fold op c e) h =
      rw (fold_back op, cell_back shape variables c h.1, value_back shape variables e h.2) refl
  one_back shape One level variables (If e a b) h =
      rw (value_back shape variables e h.0, body_back shape One (level + 1) variables a h.1, body_back shape One (level + 1) variables b h.2) refl
  one_back shape Two level variables (If e a b) h =
      rw (value_back shape variables e h.0, body_back shape Two (level + 1) variables a h.1, body_back shape Two (level + 1) variables b h.2) refl
  one_back shape profile level variables (Task us b) h =
      rw (uses_back shape profile variables us h.0.0, h.0.1, body_back shape profile (level + 1) variables b h.1) refl
  one_back shape profile level variables (Wait None) h = refl
  one_back shape One level variables (Wait (Some us)) h = absurd h
  one_back shape Two level variables (Wait (Some us)) h = rw (wait_uses_back shape variables us h.0, h.1) refl
  one_back shape One level variables (Group op cs b) h =
      rw (h.0, cells_back shape variables cs h.1, body_back shape One (level + 1) variables b h.2) refl
  one_back shape Two level variables (Group op cs b) h =
      rw (fold_back op, cells_back shape variables cs h.1, body_back shape Two (level + 1) variables b h.2) refl
