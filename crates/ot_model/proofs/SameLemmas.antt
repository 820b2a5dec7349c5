-- Lists of statements that stand for the same body.
use Rattle.std.proofs.Common.{◌≡◌, ℕ, suc, List, [], ◌∷◌, length, drop, refl, sym, ap, ◌∙◌}
use Rattle.std.specs.Prelude.{◌↔◌}
use Rattle.ot_model.specs.Tree.{Body, End, Next}
use Rattle.ot_model.specs.View.{stmts_of}
use Rattle.ot_model.specs.declared.stmt.Stmt.{Stmt}

how_many : Body → ℕ
how_many End = 0
how_many (Next x b) = suc (how_many b)

how_many-stmts : (xs : List Stmt) → how_many (stmts_of xs) ≡ length xs
unfolding how_many
how_many-stmts [] = refl
how_many-stmts (x ∷ xs) = ap suc (how_many-stmts xs)

pub same-length : (xs ys : List Stmt) → stmts_of xs ≡ stmts_of ys → length xs ≡ length ys
same-length xs ys h = sym (how_many-stmts xs) ∙ ap how_many h ∙ how_many-stmts ys

-- those that are left decide
abbrev pub Decide : List Stmt → List Stmt → ℕ → Type 0
Decide xs ys i = (stmts_of (drop i xs) ≡ stmts_of (drop i ys)) ↔ (stmts_of xs ≡ stmts_of ys)
