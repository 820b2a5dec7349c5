-- What isn't in a region.
use Rattle.std.proofs.Common.{◌≡◌, ◌≢◌, ◌∙◌, ℕ, ◌+◌, List, [], ◌∷◌, length, refl, sym, ap, inl, arith}
use Rattle.ot_model.specs.Tree.{Body, End, Next}
use Rattle.ot_model.specs.View.{stmts_of}
use Rattle.ot_model.specs.declared.stmt.Stmt.{Stmt}
use Rattle.ot_c_printed.specs.Apart.{in_group, ApartInGroup}

how_many : Body → ℕ
how_many End = 0
how_many (Next s b) = 1 + how_many b

how_many-stmts : (ss : List Stmt) → how_many (stmts_of ss) ≡ length ss
unfolding how_many
how_many-stmts [] = refl
how_many-stmts (s ∷ ss) = omega (arith, how_many-stmts ss)

region_is_one : (inside : Body) → how_many (in_group inside) ≡ 1
unfolding how_many
region_is_one inside = refl

-- what isn't one statement isn't a region
pub no_region : (ss : List Stmt) (b : Body) → length ss ≢ 1 → ApartInGroup b (stmts_of ss) 0
no_region ss b other = inl (refl, λ inside h. other (sym (how_many-stmts ss) ∙ ap how_many h ∙ region_is_one inside))
