-- What a cell is worth over all open groups, as a number is folded into a copy of it.
use Rattle.std.proofs.Common.{◌≡◌, ◌≢◌, ℕ, zero, suc, ◌+◌, ◌<◌, List, [], ◌∷◌, length, get_or, Bool, true, false, true≢false, refl, sym, ap, ◌∙◌, subst, arith}
use Rattle.std.specs.Prelude.{position, Option, Some, None, is_some, IsSome, slice_get, option_map, option_and_then, if◌then◌else◌}
use Rattle.std.proofs.lemmas.List.Elements.{All-cons}
use Rattle.std.proofs.lemmas.List.Quantifiers.{position-Some}
use Rattle.std.proofs.lemmas.Option.{same_Some}
use Rattle.ot_model.specs.Cells.{updated}
use Rattle.ot_model.specs.Joining.{join_by, unit_of}
use Rattle.ot_model.specs.declared.expr.Cell.{Cell}
use Rattle.ot_model.specs.declared.fold.Fold.{Fold as Operation}
use Rattle.ot_model.specs.declared.stmt.Mode.TheVariants.{Reads}
use Rattle.ot_model.specs.declared.stmt.Use.{Use}
use Rattle.ot_model.proofs.EqualLemmas.{cell-decides}
use Rattle.ot_owner.specs.Owning.{Summed, is_of, place_in, names, IsOnlyBy, copy_in, row_in, copies_where, copies_in, copy_among, folded_at, folded_in, copies_folded}
use Rattle.ot_owner.specs.Worth.{copies_combined, worth_over}
use Rattle.ot_owner.specs.Kept.{holder_from}
use Rattle.ot_owner.proofs.CombineLemmas.{Grew, combined-shift, combined-grew, combined-idle}
use Rattle.ot_owner.proofs.RowLemmas.{none≢some, grew-folded, folded-other}

-- where the first group that names a cell is known, a number is folded into a copy of it
pub folded-at : (w v : ℕ) (c : Cell) (k i p : ℕ) (gs : List Summed) → holder_from k gs c ≡ Some (i, p) → (j : ℕ) × (i ≡ k + j) × (j < length gs) × (copies_folded w c v gs ≡ updated gs j (λ g. folded_in w v g (Some p)))
folded-at w v c k i p [] is = absurd (none≢some (i, p) is)
folded-at w v c k i p (g ∷ gs) is = by (place_in g.uses c) refl (λ later. folded-at w v c (k + 1) i p gs later)
  where
    by : (o : Option ℕ) → place_in g.uses c ≡ o
        → (holder_from (k + 1) gs c ≡ Some (i, p) → (j : ℕ) × (i ≡ k + 1 + j) × (j < length gs) × (copies_folded w c v gs ≡ updated gs j (λ g. folded_in w v g (Some p))))
        → (j : ℕ) × (i ≡ k + j) × (j < suc (length gs)) × (copies_folded w c v (g ∷ gs) ≡ updated (g ∷ gs) j (λ g. folded_in w v g (Some p)))
    by None at later =
        let rest = later (sym (ap (λ o. if is_some o then option_map (λ place. (k, place)) o else holder_from (k + 1) gs c) at) ∙ is) in
        (suc rest.0, omega (arith, rest.1), omega (arith, rest.2), ap (λ o. if is_some o then folded_in w v g o ∷ gs else g ∷ copies_folded w c v gs) at ∙ ap (λ l. g ∷ l) rest.3)
    by (Some q) at later =
        let e : (k, q) ≡ (i, p) = same_Some (k, q) (i, p) (sym (ap (λ o. if is_some o then option_map (λ place. (k, place)) o else holder_from (k + 1) gs c) at) ∙ is) in (
          0,
          omega (arith, ap (λ (x : ℕ × ℕ). x.0) e),
          omega arith,
          ap (λ o. if is_some o then folded_in w v g o ∷ gs else g ∷ copies_folded w c v gs) at ∙ ap (λ n. folded_in w v g (Some n) ∷ gs) (ap (λ (x : ℕ × ℕ). x.1) e),
        )

-- ---- what a cell is worth

-- what doesn't name a cell has no copies of it
pub unnamed : (c : Cell) (g : Summed) → names c g ≡ false → copies_in c g ≡ []
unnamed c g not = by (place_in g.uses c) not
  where
    by : (o : Option ℕ) → is_some o ≡ false → copies_where g.rows o ≡ []
    by None is = refl
    by (Some p) is = absurd (true≢false is)

-- a number that is joined with the stored one is joined with what the cell is worth, where its groups are by this operation
pub worth-shift : (o : Operation) (c : Cell) (gs : List Summed) → IsOnlyBy gs o c → (s v : ℕ) → worth_over gs c (join_by o s v) ≡ join_by o (worth_over gs c s) v
worth-shift o c [] only s v = refl
worth-shift o c (g ∷ gs) only s v = by (λ n. worth-shift o c gs (λ k d within. only (suc k) d (omega (arith, within))) n v) (names c g) refl
  where
    by : ((n : ℕ) → worth_over gs c (join_by o n v) ≡ join_by o (worth_over gs c n) v) → (b : Bool) → names c g ≡ b → worth_over gs c (copies_combined g.op (join_by o s v) (copies_in c g)) ≡ join_by o (worth_over gs c (copies_combined g.op s (copies_in c g))) v
    by rest true named = subst (λ p. worth_over gs c (copies_combined p (join_by o s v) (copies_in c g)) ≡ join_by o (worth_over gs c (copies_combined p s (copies_in c g))) v) (sym (only 0 g (omega arith) named))
        (ap (worth_over gs c) (combined-shift o s v (copies_in c g)) ∙ rest (copies_combined o s (copies_in c g)))
    by rest false not = subst (λ xs. worth_over gs c (copies_combined g.op (join_by o s v) xs) ≡ join_by o (worth_over gs c (copies_combined g.op s xs)) v) (sym (unnamed c g not)) (rest s)

module _ (w v : ℕ) (c : Cell) (o : Operation) where
  -- the first group that names the cell, once the number is folded into the worker's copy in it
  changed : (g : Summed) (gs : List Summed) (p : ℕ) → place_in g.uses c ≡ Some p → copy_among (g ∷ gs) w c ≡ copy_in p (row_in g.rows w)
  changed g gs p at = ap (λ o. if is_some o then option_and_then (λ place. copy_in place (row_in g.rows w)) o else copy_among gs w c) at

  grew : (g : Summed) (gs : List Summed) (n p : ℕ) → IsOnlyBy (g ∷ gs) o c → place_in g.uses c ≡ Some p → copy_among (g ∷ gs) w c ≡ Some n →
      (g.op ≡ o) × Grew o v (copies_in c g) (copies_where (folded_at g.op w p v g.rows) (place_in g.uses c))
  grew g gs n p only at is =
      let same : g.op ≡ o = only 0 g (omega arith) (ap is_some at) in (
        same,
        subst (λ q. Grew o v (copies_in c g) (copies_where (folded_at q w p v g.rows) (place_in g.uses c))) (sym same)
            (subst (λ place. Grew o v (copies_where g.rows place) (copies_where (folded_at o w p v g.rows) place)) (sym at) (grew-folded o g.rows w p v n (sym (changed g gs p at) ∙ is))),
      )

  -- the groups once it is, where the first one doesn't name the cell, and where it does
  folded-later : (g : Summed) (gs : List Summed) → place_in g.uses c ≡ None → copies_folded w c v (g ∷ gs) ≡ g ∷ copies_folded w c v gs
  folded-later g gs at = ap (λ o. if is_some o then folded_in w v g o ∷ gs else g ∷ copies_folded w c v gs) at

  folded-here : (g : Summed) (gs : List Summed) (p : ℕ) → place_in g.uses c ≡ Some p → copies_folded w c v (g ∷ gs) ≡ folded_in w v g (Some p) ∷ gs
  folded-here g gs p at = ap (λ o. if is_some o then folded_in w v g o ∷ gs else g ∷ copies_folded w c v gs) at

  still : (g : Summed) (gs : List Summed) (n : ℕ) → place_in g.uses c ≡ None → copy_among (g ∷ gs) w c ≡ Some n → copy_among gs w c ≡ Some n
  still g gs n at is = sym (ap (λ o. if is_some o then option_and_then (λ place. copy_in place (row_in g.rows w)) o else copy_among gs w c) at) ∙ is

  -- the number comes to what the cell is worth
  pub worth-grew : (n : ℕ) (gs : List Summed) → IsOnlyBy gs o c → copy_among gs w c ≡ Some n → (s : ℕ) → worth_over (copies_folded w c v gs) c s ≡ join_by o (worth_over gs c s) v
  worth-grew n [] only is s = absurd (none≢some n is)
  worth-grew n (g ∷ gs) only is s = by (place_in g.uses c) refl (λ later. worth-grew n gs rest later (copies_combined g.op s (copies_in c g)))
    where
      rest : IsOnlyBy gs o c
      rest = λ k d within. only (suc k) d (omega (arith, within))

      by : (place : Option ℕ) → place_in g.uses c ≡ place
          → (copy_among gs w c ≡ Some n → worth_over (copies_folded w c v gs) c (copies_combined g.op s (copies_in c g)) ≡ join_by o (worth_over gs c (copies_combined g.op s (copies_in c g))) v)
          → worth_over (copies_folded w c v (g ∷ gs)) c s ≡ join_by o (worth_over (g ∷ gs) c s) v
      by None at later = ap (λ hs. worth_over hs c s) (folded-later g gs at) ∙ later (still g gs n at is)
      by (Some p) at later =
          let more = grew g gs n p only at is in
          ap (λ hs. worth_over hs c s) (folded-here g gs p at)
          ∙ ap (worth_over gs c) (ap (λ q. copies_combined q s (copies_where (folded_at g.op w p v g.rows) (place_in g.uses c))) more.0 ∙ combined-grew o v s (copies_in c g) (copies_where (folded_at g.op w p v g.rows) (place_in g.uses c)) more.1)
          ∙ worth-shift o c gs rest (copies_combined o s (copies_in c g)) v ∙ ap (λ q. join_by o (worth_over gs c (copies_combined q s (copies_in c g))) v) (sym more.0)

  -- the unit doesn't
  pub worth-idle : v ≡ unit_of o → (n : ℕ) (gs : List Summed) → IsOnlyBy gs o c → copy_among gs w c ≡ Some n → (s : ℕ) → worth_over (copies_folded w c v gs) c s ≡ worth_over gs c s
  worth-idle unit n [] only is s = absurd (none≢some n is)
  worth-idle unit n (g ∷ gs) only is s = by (place_in g.uses c) refl (λ later. worth-idle unit n gs (λ k d within. only (suc k) d (omega (arith, within))) later (copies_combined g.op s (copies_in c g)))
    where
      by : (place : Option ℕ) → place_in g.uses c ≡ place
          → (copy_among gs w c ≡ Some n → worth_over (copies_folded w c v gs) c (copies_combined g.op s (copies_in c g)) ≡ worth_over gs c (copies_combined g.op s (copies_in c g)))
          → worth_over (copies_folded w c v (g ∷ gs)) c s ≡ worth_over (g ∷ gs) c s
      by None at later = ap (λ hs. worth_over hs c s) (folded-later g gs at) ∙ later (still g gs n at is)
      by (Some p) at later =
          let more = grew g gs n p only at is in
          let ys = copies_where (folded_at g.op w p v g.rows) (place_in g.uses c) in
          ap (λ hs. worth_over hs c s) (folded-here g gs p at)
          ∙ ap (worth_over gs c) (ap (λ q. copies_combined q s ys) more.0 ∙ combined-idle o s (copies_in c g) ys (subst (λ u. Grew o u (copies_in c g) ys) unit more.1) ∙ ap (λ q. copies_combined q s (copies_in c g)) (sym more.0))

none : Use
none = record { cell = record { array = 0; index = 0 }; mode = Reads }

-- two cells don't stand at one place
places_apart : (uses : List Use) (c d : Cell) (p q : ℕ) → c ≢ d → position (is_of c) uses ≡ Some p → position (is_of d) uses ≡ Some q → p ≢ q
places_apart uses c d p q apart at_p at_q = λ same.
    let one = (position-Some (is_of c) uses p none at_p).1 in
    let two = (position-Some (is_of d) uses q none at_q).1 in
    apart (sym ((cell-decides (get_or uses p none).cell c).0 one) ∙ ap (λ k. (get_or uses k none).cell) same ∙ (cell-decides (get_or uses q none).cell d).0 two)

-- what other cells are worth stays
pub worth-other : (w v : ℕ) (c d : Cell) (gs : List Summed) → c ≢ d → (s : ℕ) → worth_over (copies_folded w c v gs) d s ≡ worth_over gs d s
worth-other w v c d [] apart s = refl
worth-other w v c d (g ∷ gs) apart s = by (place_in g.uses c) refl (worth-other w v c d gs apart (copies_combined g.op s (copies_in d g)))
  where
    by : (o : Option ℕ) → place_in g.uses c ≡ o → worth_over (copies_folded w c v gs) d (copies_combined g.op s (copies_in d g)) ≡ worth_over gs d (copies_combined g.op s (copies_in d g))
        → worth_over (copies_folded w c v (g ∷ gs)) d s ≡ worth_over (g ∷ gs) d s
    by None at later = ap (λ o. worth_over (if is_some o then folded_in w v g o ∷ gs else g ∷ copies_folded w c v gs) d s) at ∙ later
    by (Some p) at later = ap (λ o. worth_over (if is_some o then folded_in w v g o ∷ gs else g ∷ copies_folded w c v gs) d s) at ∙ ap (λ xs. worth_over gs d (copies_combined g.op s xs)) (there (place_in g.uses d) refl)
      where
        there : (o : Option ℕ) → place_in g.uses d ≡ o → copies_where (folded_at g.op w p v g.rows) (place_in g.uses d) ≡ copies_where g.rows (place_in g.uses d)
        there None at_d = ap (copies_where (folded_at g.op w p v g.rows)) at_d ∙ sym (ap (copies_where g.rows) at_d)
        there (Some q) at_d = ap (copies_where (folded_at g.op w p v g.rows)) at_d ∙ folded-other g.op g.rows w p v q (places_apart g.uses c d p q apart at at_d) ∙ sym (ap (copies_where g.rows) at_d)

-- so do the operations of the groups
pub only-still : (w v : ℕ) (c d : Cell) (o : Operation) (gs : List Summed) → IsOnlyBy gs o d → IsOnlyBy (copies_folded w c v gs) o d
only-still w v c d o [] only = only
only-still w v c d o (g ∷ gs) only = by (place_in g.uses c) (only 0 g (omega arith)) rest (only-still w v c d o gs rest)
  where
    rest : IsOnlyBy gs o d
    rest = λ k h within. only (suc k) h (omega (arith, within))

    by : (place : Option ℕ) → (names d g ≡ true → g.op ≡ o) → IsOnlyBy gs o d → IsOnlyBy (copies_folded w c v gs) o d → IsOnlyBy (if is_some place then folded_in w v g place ∷ gs else g ∷ copies_folded w c v gs) o d
    by None first rest more = All-cons (λ h. names d h ≡ true → h.op ≡ o) g (copies_folded w c v gs) first more
    by (Some p) first rest more = All-cons (λ h. names d h ≡ true → h.op ≡ o) (folded_in w v g (Some p)) gs first rest

-- the copies are those of the first group that names the cell
pub holder-is : (c : Cell) (k i p : ℕ) (gs : List Summed) → holder_from k gs c ≡ Some (i, p)
    → (j : ℕ) × (i ≡ k + j) × (j < length gs) × ((w : ℕ) (d : Summed) → copy_among gs w c ≡ copy_in p (row_in (get_or gs j d).rows w))
holder-is c k i p [] is = absurd (none≢some (i, p) is)
holder-is c k i p (g ∷ gs) is = by (place_in g.uses c) refl (λ later. holder-is c (k + 1) i p gs later)
  where
    by : (o : Option ℕ) → place_in g.uses c ≡ o
        → (holder_from (k + 1) gs c ≡ Some (i, p) → (j : ℕ) × (i ≡ k + 1 + j) × (j < length gs) × ((w : ℕ) (d : Summed) → copy_among gs w c ≡ copy_in p (row_in (get_or gs j d).rows w)))
        → (j : ℕ) × (i ≡ k + j) × (j < suc (length gs)) × ((w : ℕ) (d : Summed) → copy_among (g ∷ gs) w c ≡ copy_in p (row_in (get_or (g ∷ gs) j d).rows w))
    by None at later =
        let rest = later (sym (ap (λ o. if is_some o then option_map (λ place. (k, place)) o else holder_from (k + 1) gs c) at) ∙ is) in (
          suc rest.0,
          omega (arith, rest.1),
          omega (arith, rest.2),
          λ w d. ap (λ o. if is_some o then option_and_then (λ place. copy_in place (row_in g.rows w)) o else copy_among gs w c) at ∙ rest.3 w d,
        )
    by (Some q) at later =
        let e : (k, q) ≡ (i, p) = same_Some (k, q) (i, p) (sym (ap (λ o. if is_some o then option_map (λ place. (k, place)) o else holder_from (k + 1) gs c) at) ∙ is) in (
          0,
          omega (arith, ap (λ (x : ℕ × ℕ). x.0) e),
          omega arith,
          λ w d. ap (λ o. if is_some o then option_and_then (λ place. copy_in place (row_in g.rows w)) o else copy_among gs w c) at
              ∙ ap (λ n. copy_in n (row_in g.rows w)) (ap (λ (x : ℕ × ℕ). x.1) e),
        )

pub no_holder : (w : ℕ) (c : Cell) (k : ℕ) (gs : List Summed) → holder_from k gs c ≡ None → copy_among gs w c ≡ None
no_holder w c k [] is = refl
no_holder w c k (g ∷ gs) is = by (place_in g.uses c) refl (λ later. no_holder w c (k + 1) gs later)
  where
    by : (o : Option ℕ) → place_in g.uses c ≡ o → (holder_from (k + 1) gs c ≡ None → copy_among gs w c ≡ None) → copy_among (g ∷ gs) w c ≡ None
    by None at later = ap (λ o. if is_some o then option_and_then (λ place. copy_in place (row_in g.rows w)) o else copy_among gs w c) at
        ∙ later (sym (ap (λ o. if is_some o then option_map (λ place. (k, place)) o else holder_from (k + 1) gs c) at) ∙ is)
    by (Some q) at later = absurd (none≢some (k, q) (sym is ∙ ap (λ o. if is_some o then option_map (λ place. (k, place)) o else holder_from (k + 1) gs c) at))

-- whoever had a copy of a cell has one still
still-there : (copies : List ℕ) (p q : ℕ) (f : ℕ → ℕ) → IsSome (slice_get copies q) → IsSome (slice_get (updated copies p f) q)
still-there [] p q f there = there
still-there (x ∷ copies) zero zero f there = refl
still-there (x ∷ copies) zero (suc q) f there = there
still-there (x ∷ copies) (suc p) zero f there = refl
still-there (x ∷ copies) (suc p) (suc q) f there = still-there copies p q f there

row-still : (o : Operation) (rows : List (Option (List ℕ))) (w x p q v : ℕ) → IsSome (copy_in q (row_in rows x)) → IsSome (copy_in q (row_in (folded_at o w p v rows) x))
row-still o [] w x p q v there = there
row-still o (None ∷ rows) zero zero p q v there = there
row-still o (Some copies ∷ rows) zero zero p q v there = still-there copies p q (λ copy. join_by o copy v) there
row-still o (row ∷ rows) zero (suc x) p q v there = there
row-still o (row ∷ rows) (suc w) zero p q v there = there
row-still o (row ∷ rows) (suc w) (suc x) p q v there = row-still o rows w x p q v there

pub still-some : (w v x : ℕ) (c d : Cell) (gs : List Summed) → IsSome (copy_among gs x d) → IsSome (copy_among (copies_folded w c v gs) x d)
still-some w v x c d [] there = there
still-some w v x c d (g ∷ gs) there = by (place_in g.uses c) refl (λ later. still-some w v x c d gs later)
  where
    with_row : (p : ℕ) (o : Option ℕ) → IsSome (if is_some o then option_and_then (λ place. copy_in place (row_in g.rows x)) o else copy_among gs x d)
        → IsSome (if is_some o then option_and_then (λ place. copy_in place (row_in (folded_at g.op w p v g.rows) x)) o else copy_among gs x d)
    with_row p None there = there
    with_row p (Some q) there = row-still g.op g.rows w x p q v there

    with_rest : (o : Option ℕ) → (IsSome (copy_among gs x d) → IsSome (copy_among (copies_folded w c v gs) x d))
        → IsSome (if is_some o then option_and_then (λ place. copy_in place (row_in g.rows x)) o else copy_among gs x d)
        → IsSome (if is_some o then option_and_then (λ place. copy_in place (row_in g.rows x)) o else copy_among (copies_folded w c v gs) x d)
    with_rest None later there = later there
    with_rest (Some q) later there = there

    by : (o : Option ℕ) → place_in g.uses c ≡ o → (IsSome (copy_among gs x d) → IsSome (copy_among (copies_folded w c v gs) x d)) → IsSome (copy_among (copies_folded w c v (g ∷ gs)) x d)
    by None at later = subst (λ o. IsSome (copy_among (if is_some o then folded_in w v g o ∷ gs else g ∷ copies_folded w c v gs) x d)) (sym at) (with_rest (place_in g.uses d) later there)
    by (Some p) at later = subst (λ o. IsSome (copy_among (if is_some o then folded_in w v g o ∷ gs else g ∷ copies_folded w c v gs) x d)) (sym at) (with_row p (place_in g.uses d) there)
