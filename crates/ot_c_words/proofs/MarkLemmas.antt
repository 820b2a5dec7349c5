-- Marks have bytes.
use Rattle.std.proofs.Common.{◌≡◌, ℕ, ◌<◌, ◌≤◌, Bool, true, false, ◌&&◌, List, [], ◌∷◌, length, Option, Some, None, refl, sym, subst, arith}
use Rattle.std.specs.Prelude.{nat_lt, nat_eq, IfSome, if◌then◌else◌}
use Rattle.std.specs.List.{starts_with, list_all}
use Rattle.std.proofs.lemmas.Bool.Decides.{nat_tests}
use Rattle.ot_c_words.specs.Tables.{Text, table_entry}

both : (a b : Bool) → (a && b) ≡ true → (a ≡ true) × (b ≡ true)
both true b h = (refl, h)
both false b h = absurd cc

positive : (n : ℕ) → nat_lt 0 n ≡ true → 0 < n
positive n h = grind (arith, nat_tests)

module _ {X : Type 0} where
  chosen : (b : Bool) (x : X) (n : ℕ) (rest : Option (X × ℕ)) → 0 < n → IfSome rest (λ y. 0 < y.1) → IfSome (if b then Some (x, n) else rest) (λ y. 0 < y.1)
  chosen true x n rest some others = some
  chosen false x n rest some others = others

  begun_has : (table : List (Text × X)) (bytes : Text) → list_all (λ e. nat_lt 0 (length e.0)) table ≡ true → IfSome (table_entry table bytes) (λ x. 0 < x.1)
  begun_has [] bytes h = tt
  begun_has (e ∷ es) bytes h =
      let each = both (nat_lt 0 (length e.0)) (list_all (λ x. nat_lt 0 (length x.0)) es) h in
      chosen (starts_with nat_eq bytes e.0) e.1 (length e.0) (table_entry es bytes) (positive (length e.0) each.0) (begun_has es bytes each.1)

  -- the first of a table that begins some bytes has bytes, if each of the table has
  pub marked_some : (table : List (Text × X)) (bytes : Text) → list_all (λ e. nat_lt 0 (length e.0)) table ≡ true → (found : Option (X × ℕ)) → found ≡ table_entry table bytes → IfSome found (λ x. x.1 ≤ length bytes) → IfSome found (λ x. (0 < x.1) × (x.1 ≤ length bytes))
  marked_some table bytes h None is within = tt
  marked_some table bytes h (Some x) is within = (subst (λ (o : Option (X × ℕ)). IfSome o (λ y. 0 < y.1)) (sym is) (begun_has table bytes h), within)
