-- A cell that only one task names, and the wait for it.
use Rattle.std.proofs.Common.{◌≡◌, ◌∙◌, List, [], ◌∷◌, ◌++◌, refl, ap, arith}
use Rattle.std.proofs.lemmas.Bool.Decides.{nat_tests}
use Rattle.std.specs.Prelude.{Bool, true, false, ◌&&◌, ◌||◌, Some}
use Rattle.std.specs.List.{list_any}
use Rattle.ot_model.specs.Cells.{same_cell, depends_on, one_writes}
use Rattle.ot_model.specs.declared.expr.Cell.{Cell}
use Rattle.ot_model.specs.declared.stmt.Mode.TheVariants.{Reads, Writes}
use Rattle.ot_model.specs.declared.stmt.Use.{Use}
use Rattle.ot_check.specs.Offences.{use_as, awaits}
use Rattle.ot_check.proofs.Cited.{same_itself, or_false_left, or_false_right}
use Rattle.ot_exec_outline.specs.Apart.{names, at_once, its_end}

or_more : (a b c d : Bool) → d ≡ (b || c) → (a || d) ≡ ((a || b) || c)
or_more true b c d h = refl
or_more false b c d h = h

any_append : {A : Type 0} (f : A → Bool) (xs ys : List A) → list_any f (xs ++ ys) ≡ (list_any f xs || list_any f ys)
any_append f [] ys = refl
any_append f (x ∷ xs) ys = or_more (f x) _ _ _ (any_append f xs ys)

or_second : (a b : Bool) → b ≡ true → (a || b) ≡ true
or_second true b h = refl
or_second false b h = h

or_nothing : (a b : Bool) → b ≡ false → (a || b) ≡ a
or_nothing true b h = refl
or_nothing false b h = h

both_false : (a b : Bool) → a ≡ false → b ≡ false → (a || b) ≡ false
both_false true b h g = h
both_false false b h g = g

turned : (c d : Cell) → same_cell c d ≡ same_cell d c
turned c d = grind (arith, nat_tests)

pub it : (c : Cell) (d : List Use) → awaits (Some (its_end c)) (at_once c d) ≡ true
it c d =
    any_append _ d (use_as Writes c ∷ [])
    ∙ or_second _ _ (ap (λ b. ((b && true) || false) || false) (same_itself c))

pub no_other : (c : Cell) (other : List Use) → names c other ≡ false → awaits (Some (its_end c)) other ≡ false
no_other c [] h = refl
no_other c (u ∷ us) h =
    both_false _ _ (ap (λ b. (b && one_writes u.mode Reads) || false) (or_false_left (same_cell u.cell c) (names c us) h))
    (no_other c us (or_false_right (same_cell u.cell c) (names c us) h))

-- against a use of its own cell there is nothing in a list that doesn't name it
none_later : (c : Cell) (other : List Use) → names c other ≡ false → list_any (λ v. same_cell c v.cell && one_writes Writes v.mode) other ≡ false
none_later c [] h = refl
none_later c (v ∷ vs) h =
    both_false _ _ (ap (λ b. b && one_writes Writes v.mode) (turned c v.cell ∙ or_false_left (same_cell v.cell c) (names c vs) h))
    (none_later c vs (or_false_right (same_cell v.cell c) (names c vs) h))

pub earlier : (c : Cell) (d other : List Use) → names c other ≡ false → depends_on (at_once c d) other ≡ depends_on d other
earlier c d other h = any_append _ d (use_as Writes c ∷ []) ∙ or_nothing _ _ (both_false _ false (none_later c other h) refl)

pub later : (c : Cell) (d other : List Use) → names c other ≡ false → depends_on other (at_once c d) ≡ depends_on other d
later c d [] h = refl
later c d (u ∷ us) h =
    let here : list_any (λ v. same_cell u.cell v.cell && one_writes u.mode v.mode) (at_once c d) ≡ list_any (λ v. same_cell u.cell v.cell && one_writes u.mode v.mode) d =
    any_append _ d (use_as Writes c ∷ [])
    ∙ or_nothing _ _ (ap (λ b. (b && one_writes u.mode Writes) || false) (or_false_left (same_cell u.cell c) (names c us) h)) in
    ap (λ b. b || depends_on us (at_once c d)) here
    ∙ ap (λ b. list_any (λ v. same_cell u.cell v.cell && one_writes u.mode v.mode) d || b) (later c d us (or_false_right (same_cell u.cell c) (names c us) h))
