-- What a piece holds is a right of its touches, and what is true of each touch is true of each use of the list.
use Rattle.std.proofs.Common.{◌≡◌, ◌<◌, ℕ, zero, suc, ◌+◌, ◌%◌, Bool, true, false, List, [], ◌∷◌, ◌++◌, map, refl, sym, ap, subst, ◌∙◌, ◌⊎◌, inl, inr, ⊎_elim, arith, Option, Some, None, if◌then◌else◌, fold, Contains}
use Rattle.ot_job.proofs.Common.{range_with_len, same_Some, none-some, E, Literal, CellAt, Apply, PickFrom, Set, Fold, If, Body, End, Next, cell_at, cells_named, Cell, Operation, Section, Mode, Reads, Writes, Folds, Use, use_as, touches, Declared, folds_to, same_cell, same_fold, EachRead, EachTouch, IsRight, same_is, assign_touches, test_touches, held_mode, held_as, mode_noted, with_mode, stronger, mode_held, reads-append, cases_Bool}
use Rattle.std.proofs.Math.Nat.{mod-eq_of_lt}
use Rattle.ot_job.proofs.FoldLemmas.{same-op}

abbrev pub Among : Use → List Use → Type 0
Among u [] = ⊥
Among u (v ∷ vs) = (v ≡ u) ⊎ Among u vs

pub among-split : (u : Use) (us vs : List Use) → Among u (us ++ vs) → Among u us ⊎ Among u vs
among-split u [] vs h = inr h
among-split u (v ∷ us) vs (inl e) = inl (inl e)
among-split u (v ∷ us) vs (inr h) = ⊎_elim (λ k. inl (inr k)) inr (among-split u us vs h)

pub among : (u : Use) (us : List Use) → Contains us u → Among u us
among u [] (k, within, is) = absurd (omega (arith, within))
among u (v ∷ us) (zero, within, is) = inl is
among u (v ∷ us) (suc k, within, is) = inr (among u us (k, omega (arith, within), is))

pub contained : (u : Use) (us : List Use) → Among u us → Contains us u
contained u [] h = absurd h
contained u (v ∷ us) (inl e) = (0, omega arith, e)
contained u (v ∷ us) (inr h) = let r = contained u us h in (suc r.0, omega (arith, r.1), r.2)

-- ---- the mode is that of a touch

-- folds of the two are by one operation
abbrev Alike : Mode → Mode → Type 0
Alike (Folds p) (Folds q) = p ≡ q
Alike e n = Unit {0}

one-of : (e n : Mode) → Alike e n → (stronger e n ≡ e) ⊎ (stronger e n ≡ n)
one-of Reads n like = inr refl
one-of (Folds p) Writes like = inr refl
one-of (Folds p) (Folds q) like = inl (rw (subst (λ (o : Operation). same_fold p o ≡ true) like (same-op p)) refl)
one-of e n like = inl refl

module _ (own : Declared) (c : Cell) (alike : (p q : Operation) → folds_to own p c ≡ true → folds_to own q c ≡ true → p ≡ q) where
  abbrev HeldBy : List Use → Mode → Type 0
  HeldBy us m = (u : Use) × Among u us × (u.cell ≡ c) × (mode_held own u ≡ m)

  -- a fold that is held is the body's own
  abbrev IsOwn : Mode → Type 0
  IsOwn (Folds p) = folds_to own p c ≡ true
  IsOwn m = Unit {0}

  abbrev IsOwnIf : Option Mode → Type 0
  IsOwnIf None = Unit {0}
  IsOwnIf (Some m) = IsOwn m

  own-held : (u : Use) → u.cell ≡ c → IsOwn (mode_held own u)
  own-held u same = subst (λ (d : Cell). IsOwn (held_as own d u.mode)) (sym same) (by u.mode)
    where
      fold : (p : Operation) (b : Bool) → folds_to own p c ≡ b → IsOwn (if b then Folds p else Writes)
      fold p true e = e
      fold p false e = tt

      by : (m : Mode) → IsOwn (held_as own c m)
      by (Folds p) = fold p (folds_to own p c) refl
      by m = tt

  both-alike : (e n : Mode) → IsOwn e → IsOwn n → Alike e n
  both-alike (Folds p) (Folds q) h g = alike p q h g
  both-alike e n h g = tt

  own-mixed : (o : Option Mode) (n : Mode) → IsOwnIf o → IsOwn n → IsOwn (with_mode o n)
  own-mixed None n h g = g
  own-mixed (Some e) n h g =
      ⊎_elim (λ k. subst IsOwn (sym k) h) (λ k. subst IsOwn (sym k) g) (one-of e n (both-alike e n h g))

  later : (us : List Use) (v : Use) (m : Mode) → HeldBy us m → HeldBy (v ∷ us) m
  later us v m h = (h.0, inr h.1, h.2, h.3)

  held-by : (us : List Use) (o : Option Mode) (m : Mode) → IsOwnIf o → fold (mode_noted own c) o us ≡ Some m → (o ≡ Some m) ⊎ HeldBy us m
  held-by [] o m ours h = inl h
  held-by (u ∷ us) o m ours h =
      ⊎_elim (λ e. here (same_cell u.cell c) refl o ours e) (λ k. inr (later us u m k)) (held-by us (mode_noted own c o u) m (still (same_cell u.cell c) refl o ours) h)
    where
      still : (b : Bool) → same_cell u.cell c ≡ b → (o : Option Mode) → IsOwnIf o → IsOwnIf (if same_cell u.cell c then Some (with_mode o (mode_held own u)) else o)
      still true same o ours = rw same (own-mixed o (mode_held own u) ours (own-held u (same_is u.cell c same)))
      still false same o ours = rw same ours

      mixed : (o : Option Mode) (n : Mode) → IsOwnIf o → IsOwn n → with_mode o n ≡ m → (o ≡ Some m) ⊎ (n ≡ m)
      mixed None n ours is e = inr e
      mixed (Some x) n ours is e = ⊎_elim (λ k. inl (ap Some (sym k ∙ e))) (λ k. inr (sym k ∙ e)) (one-of x n (both-alike x n ours is))

      here : (b : Bool) → same_cell u.cell c ≡ b → (o : Option Mode) → IsOwnIf o → (if same_cell u.cell c then Some (with_mode o (mode_held own u)) else o) ≡ Some m → (o ≡ Some m) ⊎ HeldBy (u ∷ us) m
      here true same o ours e =
          let at_c = same_is u.cell c same in
          ⊎_elim inl (λ k. inr (u, inl refl, at_c, k)) (mixed o (mode_held own u) ours (own-held u at_c) (same_Some (with_mode o (mode_held own u)) m (rw same at e)))
      here false same o ours e = inl (rw same at e)

  right-by : (Touched : Use → Type 0) (k : Mode) (m : Mode) → Touched (use_as k c) → mode_held own (use_as k c) ≡ m → IsRight own Touched (use_as m c)
  right-by Touched Reads m t e = subst (λ n. IsRight own Touched (use_as n c)) e t
  right-by Touched Writes m t e = subst (λ n. IsRight own Touched (use_as n c)) e (inl t)
  right-by Touched (Folds p) m t e = elim (cases_Bool (folds_to own p c)) [
    | inl a ↦ subst (λ n. IsRight own Touched (use_as n c)) (rw a at e) (t, a)
    | inr a ↦ subst (λ n. IsRight own Touched (use_as n c)) (rw a at e) (inr (p, t, a))
  ]

  pub held-right : (us : List Use) (m : Mode) → held_mode own us c ≡ Some m → IsRight own (λ u. Among u us) (use_as m c)
  held-right us m h = ⊎_elim (λ e. absurd (none-some m e)) found (held-by us None m tt h)
    where
      found : HeldBy us m → IsRight own (λ u. Among u us) (use_as m c)
      found k =
          let is : k.0 ≡ use_as k.0.mode c = ap (λ d. use_as k.0.mode d) k.2 in
          right-by (λ u. Among u us) k.0.mode m (subst (λ u. Among u us) is k.1) (ap (mode_held own) (sym is) ∙ k.3)

-- ---- each touch

module _ (Q : Use → Type 0) where
  section-among : (s : Section) (u : Use) (a n : ℕ) → Among u (map (use_as Reads) (map (cell_at s) (range_with_len a n))) → (k : ℕ) × (k < a + n) × (use_as Reads (cell_at s k) ≡ u)
  section-among s u a zero h = absurd h
  section-among s u a (suc n) (inl e) = (a, omega arith, e)
  section-among s u a (suc n) (inr h) = let r = section-among s u (a + 1) n h in (r.0, omega (arith, r.1), r.2)

  each-read : (e : E) → EachRead (λ c. Q (use_as Reads c)) e → (u : Use) → Among u (map (use_as Reads) (cells_named e)) → Q u
  each-read (Literal n) h u k = absurd k
  each-read (CellAt c) h u (inl e) = subst Q e h
  each-read (CellAt c) h u (inr k) = absurd k
  each-read (Apply o a b) h u k =
      ⊎_elim (each-read a h.0 u) (each-read b h.1 u)
      (among-split u (map (use_as Reads) (cells_named a)) (map (use_as Reads) (cells_named b)) (subst (Among u) (reads-append (cells_named a) (cells_named b)) k))
  each-read (PickFrom s e) h u k =
      ⊎_elim
      (λ w.
      let r = section-among s u 0 s.len w in
      let small : r.0 % s.len ≡ r.0 = mod-eq_of_lt (let l : r.0 < s.len = omega (arith, r.1) in l) in
      subst Q (ap (λ n. use_as Reads (cell_at s n)) small ∙ r.2) (h.0 r.0))
      (each-read e h.1 u)
      (among-split u (map (use_as Reads) (map (cell_at s) (range_with_len 0 s.len))) (map (use_as Reads) (cells_named e)) (subst (Among u) (reads-append (map (cell_at s) (range_with_len 0 s.len)) (cells_named e)) k))

  one-touch : (v u : Use) → Q v → Among u (v ∷ []) → Q u
  one-touch v u q (inl e) = subst Q e q
  one-touch v u q (inr k) = absurd k

  -- of assigns
  pub each-assign : (b : Body) → EachTouch Q b → (u : Use) → Among u (assign_touches b) → Q u
  each-assign End h u k = absurd k
  each-assign (Next (Set c e) rest) h u k =
      ⊎_elim (λ w. ⊎_elim (each-read e h.0.0 u) (one-touch (use_as Writes c) u h.0.1) (among-split u (map (use_as Reads) (cells_named e)) (use_as Writes c ∷ []) w)) (each-assign rest h.1 u)
      (among-split u (touches (Set c e)) (assign_touches rest) k)
  each-assign (Next (Fold op c e) rest) h u k =
      ⊎_elim (λ w. ⊎_elim (each-read e h.0.0 u) (one-touch (use_as (Folds op) c) u h.0.1) (among-split u (map (use_as Reads) (cells_named e)) (use_as (Folds op) c ∷ []) w)) (each-assign rest h.1 u)
      (among-split u (touches (Fold op c e)) (assign_touches rest) k)
  each-assign (Next (If e a b) rest) h u k = ⊎_elim (each-read e h.0.0 u) (each-assign rest h.1 u) (among-split u (map (use_as Reads) (cells_named e)) (assign_touches rest) k)
  each-assign (Next x rest) h u k = each-assign rest h.1 u k

  -- of a condition
  pub each-test : (e : E) → EachTouch Q (Next (If e End End) End) → (u : Use) → Among u (test_touches (Some e)) → Q u
  each-test e h u k = each-read e h.0.0 u k
